-- What the loop of `filling::groups::Signals::of` keeps: each signal before it has a group and a repetition.
-- Assumes nothing.
use Rattle.std.proofs.Common.{List, ℕ, ◌≡◌, ◌+◌, ◌≤◌, ◌<◌, length}
use Rattle.terms.specs.Ranges.{Repetition}
use Rattle.terms.specs.Lists.{CountInRange, count, group_of, groups}
use Rattle.filling.specs.Outcomes.{repetition_in}
use Rattle.filling.proofs.groups.Signals.of.Given as goal

-- signal i has a group and a repetition
abbrev pub Has : (list words : List ℕ) → ℕ → Type 0
Has list words i = (group_of list i < groups) × Repetition (repetition_in words i)

abbrev pub invariant-loop-i : goal.invariant-loop-i
invariant-loop-i l =
    record {
      passed : (k : ℕ) → k < l.i → Has l.list l.repetitions (1 + k);
      counted : l.m ≡ count l.list;
      right : CountInRange l.list;
      given : l.m ≤ length l.repetitions;
    }
