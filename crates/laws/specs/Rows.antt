-- Refusals as a table of rows, in the order in which they are asked.
use Rattle.std.specs.Prelude.{◌≡◌, List, [], ◌∷◌, ◌⊎◌, ℕ}

-- a row: its number, what must hold, and the place that is given where that does not hold
pub record Row : Type 1 where
  pub number : ℕ
  pub holds : Type 0
  pub place : ℕ → Type 0

-- n and p are the number and place of the first row that does not hold; where all hold, n is 0 and `done` says the place
abbrev pub FirstRow : List Row → (done : ℕ → Type 0) → (n p : ℕ) → Type 0
FirstRow [] done n p = (n ≡ 0) × done p
FirstRow (r ∷ rs) done n p = ((r.holds → ⊥) × (n ≡ r.number) × r.place p) ⊎ (r.holds × FirstRow rs done n p)

-- all rows hold
abbrev pub Hold : List Row → Type 0
Hold [] = Unit {0}
Hold (r ∷ rs) = r.holds × Hold rs
