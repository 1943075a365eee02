-- The loop of `book::reader::Block::check`: the sum, from 1 on and kept to 32 bits, is that of the words passed.
use Rattle.std.proofs.Common.{◌≡◌, ◌+◌, ◌%◌, ◌^◌}
use Rattle.laws.specs.Sums.{sum}
use Rattle.book.specs.Reading.{in_block}
use Rattle.book.proofs.reader.Block.check.Given as goal

abbrev pub invariant-loop-w : goal.invariant-loop-w
invariant-loop-w l = l.check ≡ (sum (in_block l.self.book.bytes.now l.self.number) l.w + 1) % 2 ^ 32
