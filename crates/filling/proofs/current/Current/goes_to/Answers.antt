-- `filling::current::Current::goes_to` meets its contract: the slot stays while the record shows a free cycle, else the
-- next is begun. Assumes nothing.
use Rattle.std.proofs.Common.{rules, refl}
use Rattle.filling.proofs.StepLaws.{goes_begun}
use Rattle.filling.proofs.current.Current.goes_to.Goals as goal

pub returns : goal.returns
returns c u s h = goes_begun _ h c.first_free.ensures.first _ (search rules) c.fresh.ensures refl
