-- `book::reader::Block::check` meets its contract: each turn adds the block's next word to the sum.
-- Assumes nothing.
use Rattle.std.proofs.Common.{◌≡◌, arith}
use Rattle.laws.proofs.SumLaws.{sum_none}
use Rattle.book.specs.Words.{check_of}
use Rattle.book.specs.Reading.{in_block}
use Rattle.book.proofs.UpToLaws.{sum_kept}
use Rattle.book.proofs.reader.Block.check.Goals as goal

pub loop-w-init : goal.loop-w-init
loop-w-init c = omega (arith, sum_none (in_block c.args.self.book.bytes.now c.args.self.number))

pub loop-w-preserved : goal.loop-w-preserved
loop-w-preserved c =
    let word = in_block c.args.self.book.bytes.now c.args.self.number in
    sum_kept word c.loop-w.w _ _ c.loop-w.invariant c.word-check.ensures

pub returns : goal.returns
unfolding check_of
returns c =
    let past : c.loop-w.w ≡ 127 = omega arith in
    rw past at c.loop-w.invariant
