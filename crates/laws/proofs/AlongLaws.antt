-- Laws of a loop along a row of numbers: where it starts, its step, and what it shows at its end and where it stops.
use mathlib.Core.Path.{◌≡◌}
use Prim.Native.Nat.{ℕ, ◌+◌, ◌*◌, ◌≤◌, ◌<◌}
use native.Mathlib.Nat.{mul-le-mul_right}
use native.Mathlib.Omega.{arith}
use borrow.Author.Count.{below_more}
use Rattle.laws.specs.Along.{Along}

-- the first k of them are passed, and `at` is the next
pub record Passed (P : ℕ → Type 0) (n step count k at : ℕ) : Type 0 where
  pub most : k ≤ count
  pub place : at ≡ n + k * step
  pub seen : Along P n step k

module _ {P : ℕ → Type 0} {n step count : ℕ} where
  pub passed_none : Passed P n step count 0 n
  passed_none = record { most = omega arith; place = omega arith; seen = λ j h. absurd (omega arith) }

  pub passed_one : {k at : ℕ} → Passed P n step count k at → k < count → P at → Passed P n step count (k + 1) (at + step)
  passed_one {k} p h q =
      let seen = below_more (λ (j : ℕ). P (n + j * step)) k p.seen (rw p.place at q) in
      record { most = omega arith; place = omega (arith, p.place); seen = seen }

  pub passed_all : {k at : ℕ} → Passed P n step count k at → count ≤ k → Along P n step count
  passed_all p h j l = p.seen j (omega arith)

  pub passed_not : {k at : ℕ} → Passed P n step count k at → k < count → (P at → ⊥) → Along P n step count → ⊥
  passed_not {k} p h q a = q (rw p.place (a k h))

  -- the next number of the row is at most where the row ends
  pub passed_below : {k at : ℕ} → Passed P n step count k at → k < count → at + step ≤ n + count * step
  passed_below p h = omega (arith, p.place, mul-le-mul_right step h)
