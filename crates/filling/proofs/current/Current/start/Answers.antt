-- `filling::current::Current::start` meets its contract: no bit of the word 0 is set. Assumes nothing.
use Rattle.std.proofs.Common.{refl}
use Rattle.filling.proofs.StepLaws.{start_holds}
use Rattle.filling.proofs.current.Current.start.Goals as goal

pub returns : goal.returns
returns c = start_holds c.args.begun _ refl refl
