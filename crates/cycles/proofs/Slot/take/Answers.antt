-- `cycles::Slot::take` meets its contract: the free cycles that are not the frame's are left.
-- Assumes nothing.
use Rattle.std.proofs.Common.{rules, refl}
use Rattle.cycles.proofs.OperationLaws.{left_free}
use Rattle.cycles.proofs.Slot.take.Goals as goal

pub returns : goal.returns
returns c =
    record { unit = refl; free = left_free c.args.self _ _ _ c.cycles_of-cycles.ensures (search rules) }
