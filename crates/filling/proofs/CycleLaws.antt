-- The laws of a slot's cycles: a frame takes 64/R of them, and the first free cycle is the first.
-- Assumes nothing.
use mathlib.Core.Path.{◌≡◌, refl, ap, ◌∙◌}
use mathlib.Core.Bool.{Bool, true, false, cond}
use mathlib.Core.Logic.{⊎_elim}
use Prim.Native.Nat.{ℕ, zero, suc, ◌+◌, ◌*◌, ◌/◌, ◌≤◌, ◌<◌}
use native.Mathlib.Nat.{mod-eq_of_lt, add-mod_left, div-add-mod', le-div_iff_mul-le, eq-or-lt_of_le}
use native.Mathlib.Omega.{arith}
use borrow.Author.Tests.{eqb-true, eqb-false}
use lib.Dec.{eqb}
use Rattle.laws.specs.Sums.{sum, same}
use Rattle.laws.proofs.SumLaws.{sum_ext, sum_same, sum_repeat}
use Rattle.terms.specs.Ranges.{Repetition}
use Rattle.terms.proofs.Seven.{repetition_divides}
use Rattle.terms.proofs.RepetitionLaws.{repetition_positive, repetition_most}
use Rattle.filling.specs.Cycles.{Cycles, takes, seek, first_free}

-- ---- a frame's cycles

module _ (R : ℕ) (seven : Repetition R) where
  pub share_positive : 1 ≤ 64 / R
  share_positive = (le-div_iff_mul-le (repetition_positive R seven)).1 (omega (arith, repetition_most R seven))

  pub takes_sum : (b : ℕ) → b < R → sum (takes R b) 64 ≡ 64 / R
  takes_sum b l =
      let whole : 64 ≡ 64 / R * R = omega (arith, div-add-mod' 64 R, repetition_divides R seven) in
      let first = sum_ext (takes R b) (same b) R (λ c k. ap (same b) (mod-eq_of_lt k)) ∙ sum_same b R l in
      ap (sum (takes R b)) whole
      ∙ sum_repeat (takes R b) R (λ c. ap (same b) (add-mod_left R c)) (64 / R)
      ∙ omega (arith, ap (λ (x : ℕ). 64 / R * x) first)

-- ---- the first free cycle

-- r is the first free cycle of those from c to d, or d
pub record First (cycles : Cycles) (c d r : ℕ) : Type 0 where
  pub within : r ≤ d
  pub before : (i : ℕ) → c ≤ i → i < r → cycles i ≡ 0 → ⊥
  pub found : r < d → cycles r ≡ 0

seek_first : (cycles : Cycles) (n c : ℕ) → First cycles c (c + n) (seek cycles n c)
unfolding seek
seek_first cycles zero c = omega arith
seek_first cycles (suc n) c = go (eqb (cycles c) 0) refl (seek_first cycles n (suc c))
  where
    go : (t : Bool) → eqb (cycles c) 0 ≡ t → First cycles (suc c) (suc c + n) (seek cycles n (suc c))
        → First cycles c (c + suc n) (cond t c (seek cycles n (suc c)))
    go true e later = omega (arith, eqb-true (cycles c) 0 e)
    go false e later =
        record {
          within = omega (arith, later.within);
          before = λ i l h z.
              ⊎_elim (λ q. eqb-false (cycles c) 0 e (ap cycles q ∙ z)) (λ q. later.before i q h z)
              (eq-or-lt_of_le l);
          found = λ h. later.found (omega arith);
        }

pub is_first_free : (cycles : Cycles) → First cycles 0 64 (first_free cycles)
unfolding first_free
is_first_free cycles = seek_first cycles 64 0
