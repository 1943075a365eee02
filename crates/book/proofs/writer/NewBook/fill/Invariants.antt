-- The loop of `book::writer::NewBook::fill`: the first k blocks are the book's, and what lies behind is as it was.
use Rattle.std.proofs.Common.{◌*◌}
use Rattle.book.specs.Blocks.{book_word}
use Rattle.book.proofs.WordLaws.{Put}
use Rattle.book.proofs.writer.NewBook.fill.Given as goal

abbrev pub invariant-loop-k : goal.invariant-loop-k
invariant-loop-k l = Put (book_word l.self.settings l.self.list.now) l.fn.room l.room (128 * l.k)
