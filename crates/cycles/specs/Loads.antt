-- The tally of a unit's load, and the slots that a load needs.
use Rattle.std.specs.Prelude.{ℕ, ◌+◌, ◌/◌, ◌≤◌, ◌<◌}
use Rattle.terms.specs.Ranges.{Repetition}

-- the most slot-cycles that a tally holds
abbrev pub most_load : ℕ
most_load = 38400

-- the load after a number R came to it: 64/R more, or unchanged where R is no repetition or would take it past the most
pub data Tallied (load R : ℕ) : ℕ → Type 0 where
  added : Repetition R → load + 64 / R ≤ most_load → Tallied load R (load + 64 / R)
  past : Repetition R → most_load < load + 64 / R → Tallied load R load
  other : (Repetition R → ⊥) → Tallied load R load

-- a load divided by 64, rounded up
abbrev pub slots_for : ℕ → ℕ
slots_for load = (load + 63) / 64
