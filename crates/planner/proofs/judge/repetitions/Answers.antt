-- `planner::judge::repetitions` meets its contract: a repetition found is the largest that keeps the signal's bound.
-- Assumes nothing.
use Rattle.std.proofs.Common.{arith, ◌-◌}
use Rattle.std.proofs.lemmas.List.{length-set}
use Rattle.planner.proofs.JudgedLaws.{all_kept, all_found, found_there, bound_refused}
use Rattle.planner.proofs.judge.repetitions.Goals as goal

pub returns-in_default-clause-bound : goal.returns-in_default-clause-bound
returns-in_default-clause-bound c =
    bound_refused c.loop-i.invariant.1 c.requires (omega arith) (rw (c.signal_at-x.ensures, c.in_default.is) at c.repetition.ensures.given)

pub loop-i-preserved : goal.loop-i-preserved
loop-i-preserved c =
    let given = rw (c.signal_at-x.ensures, c.in-Some.is) at c.repetition.ensures.given in
    let seven = rw c.in-Some.is at c.repetition.ensures.some in (
      omega (arith, length-set c.loop-i.repetitions (c.loop-i.i - 1) c.in-Some.repetition),
      found_there c.loop-i.invariant.1 c.requires (omega arith) c.loop-i.invariant.0 given seven,
    )

pub returns-clause-found : goal.returns-clause-found
returns-clause-found c =
    record { room = c.loop-i.invariant.0; repetitions = all_found c.loop-i.invariant.1 (omega arith) }

-- ---- where the last signal is the one that is looked at

pub returns-in-Some-clause-bound : goal.returns-in-Some-clause-bound
returns-in-Some-clause-bound c =
    let given = rw (c.signal_at-x.ensures, c.in-Some.is) at c.repetition.ensures.given in
    let seven = rw c.in-Some.is at c.repetition.ensures.some in
    let found = found_there c.loop-i.invariant.1 c.requires (omega arith) c.loop-i.invariant.0 given seven in
    (all_kept found (omega arith), tt)

pub returns-in-Some-clause-found : goal.returns-in-Some-clause-found
returns-in-Some-clause-found c =
    let given = rw (c.signal_at-x.ensures, c.in-Some.is) at c.repetition.ensures.given in
    let seven = rw c.in-Some.is at c.repetition.ensures.some in
    let found = found_there c.loop-i.invariant.1 c.requires (omega arith) c.loop-i.invariant.0 given seven in
    record {
      room = omega (arith, length-set c.loop-i.repetitions (c.loop-i.i - 1) c.in-Some.repetition);
      repetitions = all_found found (omega arith);
    }
