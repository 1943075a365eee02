-- The static segment paper's formula, its equations 6 and 7, and the longest wait in 01's words.
use Rattle.std.specs.Prelude.{◌≡◌, ℕ, ◌+◌, ◌*◌, ◌-◌, ◌/◌, ◌%◌, ◌≤◌, ◌<◌}
use Rattle.laws.specs.Divisor.{IsGcd}
use Rattle.age.specs.Age.{IsAge}

-- d is "the remainder of (first start − offset) by g, from 0 to g − 1"
pub record Remainder (first offset g d : ℕ) : Type 0 where
  pub below : d < g
  pub remains : (offset + d) % g ≡ first % g

-- w is "the largest number below (packing time + R times cycle length) that leaves d when divided by g"
pub record Longest (limit g d w : ℕ) : Type 0 where
  pub below : w < limit
  pub leaves : w % g ≡ d
  pub largest : (v : ℕ) → v < limit → v % g ≡ d → v ≤ w

-- a divided by g, rounded up
abbrev pub rounded_up : ℕ → ℕ → ℕ
rounded_up a g = (a + (g - 1)) / g

-- equation 6
abbrev pub p_max : (packing span g d : ℕ) → ℕ
p_max packing span g d = rounded_up (packing + span - d) g - 1

-- equation 7
abbrev pub paper_age : (packing span g d slot : ℕ) → ℕ
paper_age packing span g d slot = p_max packing span g d * g + d + slot

-- "The static segment paper's formula (its equations 6 and 7) must be shown equal to it": to the age by definition
abbrev pub PaperIsAge : Type 0
PaperIsAge =
    (first span packing slot offset period g d : ℕ) →
    first < span →
    0 < period →
    IsGcd period span g →
    Remainder first offset g d →
    IsAge first span packing slot offset period (paper_age packing span g d slot)
