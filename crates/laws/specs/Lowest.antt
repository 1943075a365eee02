-- A fact at each of the numbers from 1 to m, and the lowest at which it fails: signals, blocks and lines alike.
use Rattle.std.specs.Prelude.{ℕ, ◌≤◌, ◌<◌}
use Rattle.laws.specs.Rows.{Row}

-- x is from low to high
abbrev pub Between : ℕ → ℕ → ℕ → Type 0
Between low high x = (low ≤ x) × (x ≤ high)

abbrev pub EachTo : (m : ℕ) → (ℕ → Type 0) → Type 0
EachTo m P = (i : ℕ) → Between 1 m i → P i

pub record LowestWithout (m : ℕ) (P : ℕ → Type 0) (i : ℕ) : Type 0 where
  pub within : Between 1 m i
  pub fails : P i → ⊥
  pub before : (j : ℕ) → 1 ≤ j → j < i → P j

-- the row of a refusal whose place is "the lowest such"
abbrev pub lowest_row : (number m : ℕ) → (ℕ → Type 0) → Row
lowest_row number m P = record { number = number; holds = EachTo m P; place = LowestWithout m P }
