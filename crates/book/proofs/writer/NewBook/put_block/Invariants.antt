-- The loop of `book::writer::NewBook::put_block`: the first w words are the block's, and the check so far is
-- that of 1 and them.
use Rattle.std.proofs.Common.{◌≡◌, ◌+◌, ◌%◌, ◌^◌}
use Rattle.laws.specs.Sums.{sum}
use Rattle.book.specs.Blocks.{body_word, block_word}
use Rattle.book.proofs.WordLaws.{Put}
use Rattle.book.proofs.writer.NewBook.put_block.Given as goal

abbrev pub invariant-loop-w : goal.invariant-loop-w
invariant-loop-w l =
    Put (block_word l.self.settings l.self.list.now l.k) l.fn.block l.block l.w
    × (l.check ≡ (sum (body_word l.self.settings l.self.list.now l.k) l.w + 1) % 2 ^ 32)
