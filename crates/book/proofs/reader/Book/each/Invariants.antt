-- The loop of `book::reader::Book::each`: the test says true of every block before block k.
use Rattle.std.proofs.Common.{ℕ, ◌<◌, true}
use Rattle.book.specs.Private.{Tested}
use Rattle.book.proofs.reader.Book.each.Given as goal

abbrev pub invariant-loop-k : goal.invariant-loop-k
invariant-loop-k g l = (k : ℕ) → k < l.k → Tested l.self (λ block says. goal.F-post g l.right block says) k true
