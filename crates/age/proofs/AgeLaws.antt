-- Laws of ages: there is one and only one, every value is carried, and the formula, in 01's words and as the paper's
-- equations 6 and 7, gives the definition's age.
use mathlib.Core.Path.{◌≡◌, refl, ◌∙◌, sym, ap}
use mathlib.Core.Logic.{dite}
use Prim.Native.Nat.{ℕ, zero, suc, ◌+◌, ◌*◌, ◌-◌, ◌/◌, ◌%◌, ◌≤◌, ◌<◌}
use native.Mathlib.Nat.{mul-le-mul_right, lt_of_not-le, mod-eq_of_lt, mod-lt, add-mod-mod}
use native.Mathlib.Decide.{dec_le}
use native.Mathlib.Omega.{arith}
use Rattle.laws.specs.Divisor.{IsGcd}
use Rattle.laws.proofs.DivisorLaws.{bezout, gcd_swap, gcd_positive, euclid, euclid_gcd, divisor_at_most}
use Rattle.laws.proofs.RemainderLaws.{congruent_of, same_remainder, rounded_up_lem}
use Rattle.age.specs.Age.{Start, Release, Carries, ValueAge, IsAge}
use Rattle.age.specs.Formula.{Remainder, Longest, paper_age, p_max}
use Rattle.age.proofs.FormulaLaws.{longest_top, paper_longest, remainder_ahead}

pub age_unique : (first span packing slot offset period a b : ℕ) → IsAge first span packing slot offset period a
    → IsAge first span packing slot offset period b → a ≡ b
age_unique first span packing slot offset period a b p q =
    omega
    (arith, q.largest p.release a p.released p.reached, p.largest q.release b q.released q.reached)

module _ (first span packing : ℕ) where
  -- a start that is less than a span above the packed release carries it
  pub carries_by : (r t : ℕ) → Start first span t → r + packing ≤ t → t < r + packing + span → Carries first span packing r t
  carries_by r t (k, e) p l = record { start = (k, e); packed = p; earliest = earliest }
    where
      earliest : (u : ℕ) → Start first span u → r + packing ≤ u → t ≤ u
      earliest u (i, d) b =
          dite (dec_le k i) (λ h. omega (arith, mul-le-mul_right span h))
          (λ h. omega (arith, mul-le-mul_right span (lt_of_not-le h)))

  -- the wait of a carried value is below the packing time and the span
  pub wait_below : first < span → (r t : ℕ) → Carries first span packing r t → t < r + packing + span
  wait_below f r t c = from c.start.0 c.start.1
    where
      from : (k : ℕ) → t ≡ first + k * span → t < r + packing + span
      from zero e = omega arith
      from (suc k) e =
          dite (dec_le (r + packing) (first + k * span))
          (λ h. omega (arith, c.earliest (first + k * span) (k, refl) h)) (λ h. omega arith)

  -- every release is carried
  pub carried : 0 < span → (r : ℕ) → (t : ℕ) × Carries first span packing r t
  carried s r =
      let steps = (r + packing - first + (span - 1)) / span in
      let up = rounded_up_lem (r + packing - first) span s in
      dite (dec_le (r + packing) first)
      (λ h. (first, record { start = (0, omega arith); packed = h; earliest = λ u b l. omega arith }))
      (λ h. (first + steps * span, carries_by r (first + steps * span) (steps, refl) (omega arith) (omega arith)))

-- the formula in 01's words gives the definition's age
module _ (first span packing slot offset period g d w : ℕ) (f : first < span) (t : 0 < period)
    (c : IsGcd period span g) (m : Remainder first offset g d) (l : Longest (packing + span) g d w) where
  s : 0 < span
  s = omega arith

  -- the longest wait is the way from some release to some start
  meets : (j k : ℕ) × (first + k * span ≡ offset + j * period + w)
  meets =
      let (a, b, e) = congruent_of g first (offset + w)
      (sym m.remains ∙ rw (← l.leaves) (add-mod-mod offset w g)) in
      let (x, y, p) = bezout span period g s t (gcd_swap period span g c) in
      let (v, z, q) = bezout period span g t s c in
      (b * v + a * y, a * x + b * z, omega (arith, e, ap (λ (i : ℕ). a * i) p, ap (λ (i : ℕ). b * i) q))

  reaches : (j k : ℕ) → first + k * span ≡ offset + j * period + w → ValueAge first span packing slot (offset + j * period) (w + slot)
  reaches j k e =
      let most = divisor_at_most g span c.right s in
      let top = longest_top (packing + span) g d w (gcd_positive period span g c s) l in
      let carries = carries_by first span packing (offset + j * period) (first + k * span) (k, refl) (omega arith)
      (omega (arith, l.below)) in
      record { sent = first + k * span; carries = carries; age = omega arith }

  -- each wait leaves d
  wait_leaves : (j k v : ℕ) → offset + j * period + v ≡ first + k * span → v % g ≡ d
  wait_leaves j k v e =
      let (a, b, h) = congruent_of g (offset + d) first m.remains in
      let left = ap (λ (i : ℕ). j * i) c.left.1 in
      let right = ap (λ (i : ℕ). k * i) c.right.1 in
      same_remainder g v d (j * c.left.0 + b, a + k * c.right.0, omega arith) ∙ mod-eq_of_lt m.below

  none_longer : (r b : ℕ) → Release offset period r → ValueAge first span packing slot r b → b ≤ w + slot
  none_longer r b (j, e) v =
      let below = wait_below first span packing f r v.sent v.carries in
      let leaves = wait_leaves j v.carries.start.0 (v.sent - r) (omega (arith, v.carries)) in
      omega (arith, v.age, l.largest (v.sent - r) (omega arith) leaves)

  pub formula_is_age : IsAge first span packing slot offset period (w + slot)
  formula_is_age =
      let (j, k, e) = meets in
      record { release = offset + j * period; released = (j, refl); reached = reaches j k e; largest = none_longer }

-- the age by equations 6 and 7, with the divisor that Euclid finds
abbrev pub computed : (first span packing slot offset period : ℕ) → ℕ
computed first span packing slot offset period =
    let g = euclid span period span in paper_age packing span g ((first + (g - offset % g)) % g) slot

module _ (first span packing slot offset period : ℕ) (f : first < span) (t : 0 < period) where
  -- equations 6 and 7 as they stand
  pub paper_is_age :
      (g d : ℕ) → IsGcd period span g → Remainder first offset g d → IsAge first span packing slot offset period (paper_age packing span g d slot)
  paper_is_age g d c m =
      formula_is_age first span packing slot offset period g d (p_max packing span g d * g + d) f t c m
      (paper_longest packing span g d m.below (divisor_at_most g span c.right (omega arith)))

  -- by equations 6 and 7, with the divisor that Euclid finds
  pub computed_is_age : IsAge first span packing slot offset period (computed first span packing slot offset period)
  computed_is_age =
      let c = euclid_gcd period span in
      paper_is_age _ _ c (remainder_ahead first offset _ (gcd_positive period span _ c (omega arith)))

  pub age_exists : (a : ℕ) × IsAge first span packing slot offset period a
  age_exists = (computed first span packing slot offset period, computed_is_age)

  -- an age and some common divisor reach the whole wait
  pub age_reaches : (a : ℕ) → IsAge first span packing slot offset period a
      → (g : ℕ) × IsGcd period span g × (packing + span + slot ≤ a + g)
  age_reaches a p =
      let g = euclid span period span in
      let c = euclid_gcd period span in
      let above = gcd_positive period span g c (omega arith) in
      let d = (first + (g - offset % g)) % g in
      let wait = paper_longest packing span g d (mod-lt _ above) (divisor_at_most g span c.right (omega arith)) in
      let same = age_unique first span packing slot offset period a _ p computed_is_age in
      (g, c, omega (arith, same, longest_top (packing + span) g d _ above wait))
