-- The loop of `book::reader::Book::copy_list`: the first i words are the book's, and what lies behind is as it was.
use Rattle.book.specs.Reading.{list_word}
use Rattle.book.proofs.UpToLaws.{Over}
use Rattle.book.proofs.reader.Book.copy_list.Given as goal

abbrev pub invariant-loop-i : goal.invariant-loop-i
invariant-loop-i l = Over (list_word l.self.bytes.now) l.fn.list l.list l.i
