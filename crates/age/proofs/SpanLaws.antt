-- What the time between starts does to ages: a frame that starts more often is never later; an age within the period
-- keeps the span within the period (the paper's equation 2), and then no value is overwritten unsent.
use Prim.Native.Nat.{ℕ, ◌+◌, ◌*◌, ◌-◌, ◌≤◌, ◌<◌}
use native.Mathlib.Nat.{mul-le-mul_right, lt_of_mul-lt-mul_right}
use native.Mathlib.Omega.{arith}
use Rattle.laws.specs.Divisor.{Divides}
use Rattle.age.specs.Age.{Carries, ValueAge, IsAge}
use Rattle.age.proofs.AgeLaws.{carried, wait_below, age_reaches}

-- the starts of a frame are among those of one that starts n times as often
pub oftener_younger : (first span n packing slot offset period a b : ℕ) → 0 < n * span
    → IsAge first span packing slot offset period a → IsAge first (n * span) packing slot offset period b
    → a ≤ b
oftener_younger first span n packing slot offset period a b h p q =
    let (t, c) = carried first (n * span) packing h p.release in
    let sooner = p.reached.carries.earliest t (c.start.0 * n, omega (arith, c.start.1)) c.packed in
    let value : ValueAge first (n * span) packing slot p.release (t + slot - p.release) =
    record { sent = t; carries = c; age = omega (arith, c.packed) } in
    omega (arith, sooner, p.reached.age, q.largest p.release (t + slot - p.release) p.released value)

-- multiples of g lie at least g apart
apart : (g a b : ℕ) → Divides g a → Divides g b → a < b → a + g ≤ b
apart g a b (m, p) (n, q) h =
    let fewer : m < n = lt_of_mul-lt-mul_right g (omega arith) in
    omega (arith, mul-le-mul_right g fewer)

module _ (first span packing slot offset period : ℕ) (f : first < span) (t : 0 < period) where
  -- equation 2
  pub span_within_period : (a : ℕ) → 0 < slot → IsAge first span packing slot offset period a → a ≤ period → span ≤ period
  span_within_period a s p h =
      let (g, c, reached) = age_reaches first span packing slot offset period f t a p in
      let never : period < span → ⊥ = λ k. omega (arith, apart g period span c.left c.right k) in
      omega arith

  -- the next value has a start of its own, later than that of the value before it
  pub none_overwritten : span ≤ period → (r u v : ℕ) → Carries first span packing r u
      → Carries first span packing (r + period) v → u < v
  none_overwritten h r u v c d = omega (arith, wait_below first span packing f r u c, d.packed)

-- an age is at least the slot length
pub age_at_least_slot : (first span packing slot offset period a : ℕ) → IsAge first span packing slot offset period a → slot ≤ a
age_at_least_slot first span packing slot offset period a p = omega (arith, p.reached.age, p.reached.carries.packed)
