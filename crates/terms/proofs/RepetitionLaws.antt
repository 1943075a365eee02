-- Laws of the seven repetitions, once over the exponent: they are from 1 to 64, a larger one is a multiple of a smaller
-- one, a smaller one is at most the half, and the half of one is one, or 0.
use mathlib.Core.Path.{◌≡◌, ◌∙◌, sym, ap, subst}
use mathlib.Core.Logic.{◌⊎◌, inl, inr}
use Prim.Native.Nat.{ℕ, zero, suc, ◌+◌, ◌*◌, ◌-◌, ◌/◌, ◌^◌, ◌≤◌, ◌<◌}
use native.Mathlib.Nat.{lt_of_not-le, two-pow-succ}
use native.Mathlib.Omega.{arith}
use lib.Pow.{pow_pos, pow_mono, pow-add}
use Rattle.terms.specs.Ranges.{Repetition}

pub repetition_positive : (R : ℕ) → Repetition R → 0 < R
repetition_positive R (e, h, p) = subst (λ (n : ℕ). 0 < n) (sym p) (pow_pos e)

pub repetition_most : (R : ℕ) → Repetition R → R ≤ 64
repetition_most R (e, h, p) = subst (λ (n : ℕ). n ≤ 64) (sym p) (pow_mono h)

-- exponents go as their powers
exponent_below : (d e : ℕ) → 2 ^ d < 2 ^ e → d < e
exponent_below d e h = lt_of_not-le (λ k. omega (arith, pow_mono k))

pub repetition_multiple : (Q R : ℕ) → Repetition Q → Repetition R → Q ≤ R → (n : ℕ) × (R ≡ n * Q)
repetition_multiple Q R (d, i, p) (e, j, q) h =
    let order = exponent_below d (suc e) (omega (arith, pow_pos e)) in
    let sum : e ≡ e - d + d = omega arith in
    (2 ^ (e - d), q ∙ ap (λ (n : ℕ). 2 ^ n) sum ∙ rw p (pow-add 2 (e - d) d))

pub half_repetition : (R : ℕ) → Repetition R → (R / 2 ≡ 0) ⊎ Repetition (R / 2)
half_repetition R (zero, h, p) = inl (omega arith)
half_repetition R (suc e, h, p) = inr (e, omega arith, omega (arith, p, two-pow-succ e))

-- a repetition below another is at most its half
pub below_half : (Q R : ℕ) → Repetition Q → Repetition R → Q < R → Q ≤ R / 2
below_half Q R (d, i, p) (zero, j, q) h = absurd (omega (arith, pow_pos d))
below_half Q R (d, i, p) (suc e, j, q) h =
    let order : d ≤ e = omega (arith, exponent_below d (suc e) (omega arith)) in omega (arith, pow_mono order)
