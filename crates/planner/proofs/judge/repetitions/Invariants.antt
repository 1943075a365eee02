-- The loop of `planner::judge::repetitions`: the repetitions of the signals before the one that is looked at are found.
use Rattle.std.proofs.Common.{◌≡◌, length}
use Rattle.laws.proofs.LowestLaws.{Reached}
use Rattle.terms.specs.Lists.{count}
use Rattle.planner.proofs.JudgedLaws.{FoundIn}
use Rattle.planner.proofs.judge.repetitions.Given as goal

abbrev pub invariant-loop-i : goal.invariant-loop-i
invariant-loop-i l =
    (length l.repetitions ≡ 600) × Reached (count l.list) (FoundIn l.s l.list l.repetitions) l.i
