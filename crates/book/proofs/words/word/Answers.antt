-- `book::words::word` meets its contract: the four bytes with their weights are the word.
-- Assumes nothing.
use Rattle.std.proofs.Common.{add-zero, arith}
use Rattle.book.specs.Words.{word_at}
use Rattle.book.proofs.words.word.Goals as goal

pub returns : goal.returns
unfolding word_at
returns c = rw add-zero (omega (arith, c.from_le_bytes.ensures))
