-- What the loop of `filling::groups::Signals::loads` keeps: the signals before it are tallied. Assumes nothing.
use Rattle.terms.specs.Lists.{group_of}
use Rattle.filling.specs.Private.{repetition_of}
use Rattle.filling.proofs.Tallying.{Tallying}
use Rattle.filling.proofs.groups.Signals.loads.Given as goal

abbrev pub invariant-loop-i : goal.invariant-loop-i
invariant-loop-i l = Tallying (group_of l.self.list.now) (repetition_of l.self) l.loads l.i
