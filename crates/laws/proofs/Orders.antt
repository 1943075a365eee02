-- Orders of products, from bounds of their factors, and the other way round.
use Prim.Native.Nat.{ℕ, zero, suc, ◌*◌, ◌≤◌, ◌<◌}
use native.Mathlib.Nat.{lt_of_le_of_lt, mul-le-mul, zero-mul, mul-zero}
use native.Mathlib.Omega.{arith}

pub product_below : {a b : ℕ} (A B : ℕ) {N : ℕ} → a ≤ A → b ≤ B → A * B < N → a * b < N
product_below A B ha hb h = lt_of_le_of_lt (mul-le-mul ha hb) h

pub factors_positive : (a b : ℕ) → 1 ≤ a * b → (1 ≤ a) × (1 ≤ b)
factors_positive zero b h = absurd (omega (arith, zero-mul b))
factors_positive (suc a) zero h = absurd (omega (arith, mul-zero (suc a)))
factors_positive (suc a) (suc b) h = (omega arith, omega arith)
