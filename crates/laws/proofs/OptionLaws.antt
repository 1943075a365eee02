-- Laws of numbers that may be none and stand for 0 where they are: when two of them are equal.
-- Assumes nothing.
use mathlib.Core.Path.{◌≡◌, refl, sym, ap}
use Prim.Native.Nat.{ℕ}
use Rattle.std.specs.Prelude.{◌≢◌, ◌↔◌, Option, None, Some, unwrap_or, IsSome}

-- where neither is 0
pub same_not_zero : (a b : Option ℕ) → a ≢ Some 0 → b ≢ Some 0 → unwrap_or a 0 ≡ unwrap_or b 0 → a ≡ b
same_not_zero None None m n e = refl
same_not_zero None (Some y) m n e = absurd (n (ap (λ (z : ℕ). Some z) (sym e)))
same_not_zero (Some x) None m n e = absurd (m (ap (λ (z : ℕ). Some z) e))
same_not_zero (Some x) (Some y) m n e = ap (λ (z : ℕ). Some z) e

-- where both are there under one condition
pub same_where : {P : Type 0} (a b : Option ℕ) → IsSome a ↔ P → IsSome b ↔ P → unwrap_or a 0 ≡ unwrap_or b 0 → a ≡ b
same_where None None f g e = refl
same_where None (Some y) f g e = cc (f.1 (g.0 refl))
same_where (Some x) None f g e = cc (g.1 (f.0 refl))
same_where (Some x) (Some y) f g e = ap (λ (z : ℕ). Some z) e
