-- Laws of numbers in a row: which numbers are among them.
use mathlib.Core.List.Memᴰ
use mathlib.Core.List.{Memᴰ}
use mathlib.Core.Logic.{⊎_elim}
use Prim.Native.Nat.{ℕ, zero, suc, ◌+◌, ◌≤◌, ◌<◌}
use native.Mathlib.Nat.{eq-or-lt_of_le}
use native.Mathlib.Omega.{arith}
use Rattle.laws.specs.Numbers.{numbers_from}

pub among : (a n k : ℕ) → a ≤ k → k < a + n → Memᴰ k (numbers_from a n)
unfolding numbers_from
among a zero k l h = absurd (omega arith)
among a (suc n) k l h =
    ⊎_elim (λ e. Memᴰ.head (omega arith)) (λ m. Memᴰ.tail (among (suc a) n k m (omega arith))) (eq-or-lt_of_le l)

pub within : (a n k : ℕ) → Memᴰ k (numbers_from a n) → (a ≤ k) × (k < a + n)
unfolding numbers_from
within a zero k m = absurd (Memᴰ.not-nil m)
within a (suc n) k m = ⊎_elim (λ e. omega arith) (λ t. let w = within (suc a) n k t in omega arith) (Memᴰ.cases_cons m)
