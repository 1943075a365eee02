-- The loop of `planner::judge::judge_fields`: each signal before the one that is looked at is in range.
use Rattle.laws.proofs.LowestLaws.{Reached}
use Rattle.terms.specs.Ranges.{SignalInRange}
use Rattle.terms.specs.Lists.{count, signal_at}
use Rattle.planner.proofs.judge.judge_fields.Given as goal

abbrev pub invariant-loop-i : goal.invariant-loop-i
invariant-loop-i l = Reached (count l.list) (λ j. SignalInRange l.s (signal_at l.list j)) l.i
