-- Laws of the lowest number without a property: there is at most one, and how a loop from 1 on comes to it.
-- Assumes nothing.
use mathlib.Core.Path.{◌≡◌}
use mathlib.Core.Logic.{dite}
use Prim.Native.Nat.{ℕ, ◌+◌, ◌≤◌, ◌<◌}
use native.Mathlib.Decide.{ℕ_discrete}
use native.Mathlib.Omega.{arith}
use Rattle.laws.specs.Lowest.{EachTo, LowestWithout}

-- each number below i has the property, and i is the next, or one past the last
pub record Reached (m : ℕ) (P : ℕ → Type 0) (i : ℕ) : Type 0 where
  pub first : 1 ≤ i
  pub last : i ≤ m + 1
  pub passed : (j : ℕ) → 1 ≤ j → j < i → P j

module _ (m : ℕ) (P : ℕ → Type 0) where
  pub reached_first : Reached m P 1
  reached_first = record { first = omega arith; last = omega arith; passed = λ j l h. absurd (omega arith) }

  pub reached_next : (i : ℕ) → Reached m P i → i ≤ m → P i → Reached m P (i + 1)
  reached_next i r h p =
      let passed : (j : ℕ) → 1 ≤ j → j < i + 1 → P j =
      λ j l k. dite (ℕ_discrete j i) (λ e. rw e p) (λ n. r.passed j l (omega arith)) in
      record { first = omega arith; last = omega arith; passed = passed }

  pub reached_all : (i : ℕ) → Reached m P i → m < i → EachTo m P
  reached_all i r h j b = r.passed j b.0 (omega arith)

  pub reached_fails : (i : ℕ) → Reached m P i → i ≤ m → (P i → ⊥) → LowestWithout m P i
  reached_fails i r h f = record { within = (r.first, h); fails = f; before = r.passed }

  pub lowest_not_each : (i : ℕ) → LowestWithout m P i → EachTo m P → ⊥
  lowest_not_each i l e = l.fails (e i l.within)

  pub lowest_one : (i j : ℕ) → LowestWithout m P i → LowestWithout m P j → i ≡ j
  lowest_one i j k l =
      let not_before : i < j → ⊥ = λ h. k.fails (l.before i k.within.0 h) in
      let not_after : j < i → ⊥ = λ h. l.fails (k.before j l.within.0 h) in
      omega arith
