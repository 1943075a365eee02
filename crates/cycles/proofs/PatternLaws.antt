-- The rule of the seven patterns, as the test of their bits gives it.
-- Assumes nothing.
use mathlib.Core.Path.{◌≡◌, ap, ◌∙◌}
use Prim.Native.Nat.{ℕ, ◌/◌, ◌%◌, ◌^◌, ◌≤◌}
use native.Mathlib.Nat.{mul-mod_left, div-add-mod'}
use native.Mathlib.Omega.{arith}
use borrow.Author.Tests.{eqb-true, eqb-false}
use lib.Dec.{eqb, eqb→eq}
use lib.ListN.{get_or}
use lib.Count.{count_trailing_zeros}
use Rattle.laws.specs.Divisor.{Divides}
use Rattle.laws.proofs.Tests.{at}
use Rattle.cycles.specs.Bits.{bit, Mask}
use Rattle.cycles.proofs.MaskLaws.{shows_test, shows_iff}
use Rattle.cycles.specs.Frames.{Multiple}
use Rattle.terms.specs.Ranges.{Repetition}
use Rattle.cycles.proofs.Patterns.{patterns, right, row, tested}

pub pattern_rule : (e : ℕ) → e ≤ 6 → Mask (get_or patterns e 0) (Divides (2 ^ e))
unfolding right row
pattern_rule e h c l =
    rw (eqb→eq (bit (get_or patterns e 0) c) _ (at (right e) 64 (at row 7 tested e (omega arith)) c l))
    (shows_test (eqb (c % 2 ^ e) 0)
    (λ t. (c / 2 ^ e, omega (arith, div-add-mod' c (2 ^ e), eqb-true (c % 2 ^ e) 0 t)))
    (λ t d. eqb-false (c % 2 ^ e) 0 t (ap (λ (x : ℕ). x % 2 ^ e) d.1 ∙ mul-mod_left d.0 (2 ^ e))))

-- the exponent of a repetition is its number of trailing zeros
pub exponent_zeros : {R : ℕ} (r : Repetition R) → count_trailing_zeros 32 R ≡ r.0
unfolding count_trailing_zeros
exponent_zeros (e, h, p) = rw p (eqb→eq _ e (at (λ d. eqb (count_trailing_zeros 32 (2 ^ d)) d) 7 tt e (omega arith)))

-- the rule at a repetition
pub pattern_of : {R : ℕ} → Repetition R → Mask (get_or patterns (count_trailing_zeros 32 R) 0) (Multiple R)
pattern_of r c l =
    rw (exponent_zeros r) (shows_iff (λ d. record { repetition = r; multiple = d }) (λ m. m.multiple)
    (rw (← r.2) at (pattern_rule r.0 r.1 c l)))
