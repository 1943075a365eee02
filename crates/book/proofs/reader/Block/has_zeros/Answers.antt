-- `book::reader::Block::has_zeros` meets its contract: the words tested are those behind the block's own.
-- Assumes nothing.
use Rattle.std.proofs.Common.{◌≡◌, ◌≢◌, refl, rules}
use borrow.Author.Tests.{tests}
use Rattle.std.proofs.lemmas.Iterator.{cases_from_all, YieldsList-from_range}
use Rattle.book.specs.Reading.{in_block}
use Rattle.book.proofs.BlockLaws.{range_says}
use Rattle.book.proofs.reader.Block.has_zeros.Goals as goal

pub returns : goal.returns
returns c =
    let word = in_block c.args.self.book.bytes.now c.args.self.number in
    rw c.used.ensures at (range_says (λ w. word w ≡ 0) c.used.result 127 c.all.result
    (cases_from_all _ _ _ (λ w. word w ≡ 0) (λ w. word w ≢ 0) c.all.ensures.ran
    (YieldsList-from_range c.used.result 127 _ refl refl) (λ x q k. search (rules, tests))
    (λ x q k. search (rules, tests))))
