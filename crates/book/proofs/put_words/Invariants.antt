-- The loop of `book::put_words`: the bytes of the first p words are the list's, and what lies behind is as it was.
use Rattle.std.proofs.Common.{slice_index}
use Rattle.book.proofs.WordLaws.{Put}
use Rattle.book.proofs.put_words.Given as goal

abbrev pub invariant-loop-p : goal.invariant-loop-p
invariant-loop-p l = Put (λ q. slice_index l.list q) l.fn.room l.room l.p
