-- The laws of the load and of the slots needed: these depend on the repetitions of the signals alone, are at most one
-- for each signal, and fewer signals with larger repetitions need no more.
-- Assumes nothing.
use mathlib.Core.Path.{◌≡◌, refl, ap}
use Prim.Native.Nat.{ℕ, ◌+◌, ◌*◌, ◌-◌, ◌/◌, ◌≤◌, ◌<◌}
use native.Mathlib.Nat.{le_of_eq, mul-le-mul, mul-le-mul_left, div-le_self, div-mul-le_self, le-div_iff_mul-le}
use native.Mathlib.Omega.{arith}
use Rattle.laws.specs.Lowest.{Between, EachTo}
use Rattle.laws.specs.Sums.{sum, same}
use Rattle.laws.proofs.SumLaws.{same_most, sum_le, sum_ext, sum_const, sum_times, sum_exchange, sum_same_most}
use Rattle.laws.proofs.SumLaws.{sum_more, sum_among}
use Rattle.terms.specs.Ranges.{Repetition}
use Rattle.terms.proofs.RepetitionLaws.{repetition_positive}
use Rattle.cycles.specs.Loads.{slots_for}
use Rattle.filling.specs.Filled.{group_load, slots_before}

-- what signal i adds to the load of group g
abbrev load_at : (group R : ℕ → ℕ) → (g i : ℕ) → ℕ
load_at group R g i = same (group i) g * (64 / R i)

-- ---- of the repetitions of the signals alone

pub needed_same : (group R Q : ℕ → ℕ) (m : ℕ) → EachTo m (λ i. R i ≡ Q i) → (g : ℕ)
    → slots_before group R m g ≡ slots_before group Q m g
needed_same group R Q m h g =
    sum_ext (λ k. slots_for (group_load group R m k)) (λ k. slots_for (group_load group Q m k)) g (λ k l.
    ap slots_for
    (sum_ext (λ i. load_at group R k (1 + i)) (λ i. load_at group Q k (1 + i)) m
    (λ i b. ap (λ (x : ℕ). same (group (1 + i)) k * (64 / x)) (h (1 + i) (omega arith)))))

-- ---- at most one slot for each signal

module _ (group R : ℕ → ℕ) (m : ℕ) where
  -- 1 where signal 1 + i is of group g, else 0; and how many are
  abbrev of_group : (g i : ℕ) → ℕ
  of_group g i = same (group (1 + i)) g

  load_members : (g : ℕ) → group_load group R m g ≤ 64 * sum (of_group g) m
  load_members g =
      let each = sum_le (λ i. load_at group R g (1 + i)) (λ i. 64 * of_group g i) m
      (λ i l. omega (arith, mul-le-mul_left (of_group g i) (div-le_self 64 (R (1 + i))))) in
      omega (arith, each, sum_times 64 (of_group g) m)

  pub load_most : (g : ℕ) → group_load group R m g ≤ 64 * m
  load_most g =
      let members = sum_le (of_group g) (λ i. 1) m (λ i l. same_most (group (1 + i)) g) in
      omega (arith, load_members g, members, sum_const 1 m)

  pub needed_most : (g : ℕ) → slots_before group R m g ≤ m
  needed_most g =
      let need : ℕ → ℕ = λ k. slots_for (group_load group R m k) in
      let each = sum_le need (λ k. sum (of_group k) m) g (λ k l. omega (arith, load_members k)) in
      let one = sum_le (λ i. sum (λ k. of_group k i) g) (λ i. 1) m (λ i l. sum_same_most (group (1 + i)) g) in
      omega (arith, each, sum_exchange of_group m g, one, sum_const 1 m)

  -- those of group g come to those before it
  pub slots_next : (g : ℕ) {needed r : ℕ} → needed ≡ slots_before group R m g → r ≡ slots_for (group_load group R m g)
      → (needed + r ≡ slots_before group R m (g + 1)) × (needed + r ≤ m)
  slots_next g n e =
      let next = sum_more (λ k. slots_for (group_load group R m k)) g in
      (omega arith, omega (arith, needed_most (g + 1)))

-- ---- fewer signals with larger repetitions

-- a larger divisor goes in less often
quotient_falls : (a b : ℕ) → 0 < a → a ≤ b → 64 / b ≤ 64 / a
quotient_falls a b h l =
    (le-div_iff_mul-le {x = 64 / b} {y = 64} h).1 (omega (arith, mul-le-mul_left (64 / b) l, div-mul-le_self 64 b))

-- of m' signals j was signal `was j` of m, with the same group and no larger repetition
module _ (group group' R R' was : ℕ → ℕ) (m m' : ℕ) (seven : EachTo m (λ i. Repetition (R i)))
    (rising : (i j : ℕ) → 1 ≤ i → i < j → j ≤ m' → was i < was j) (within : EachTo m' (λ j. Between 1 m (was j)))
    (same_group : EachTo m' (λ j. group' j ≡ group (was j))) (rarer : EachTo m' (λ j. R (was j) ≤ R' j))
  where
    load_falls : (g : ℕ) → group_load group' R' m' g ≤ group_load group R m g
    load_falls g =
        sum_among (λ j. load_at group' R' g (1 + j)) (λ i. load_at group R g (1 + i)) (λ j. was (1 + j) - 1) m' m
        (λ i j l h.
        let later = rising (1 + i) (1 + j) (omega arith) (omega arith) (omega arith) in
        omega (arith, later, within (1 + i) (omega arith)))
        (λ j l.
        let i = was (1 + j) in
        let b : Between 1 m' (1 + j) = omega arith in
        let w = within (1 + j) b in
        let place : 1 + (i - 1) ≡ i = omega (arith, w) in (
          omega (arith, w),
          rw place
              (mul-le-mul (le_of_eq (ap (λ (x : ℕ). same x g) (same_group (1 + j) b)))
              (quotient_falls (R i) (R' (1 + j)) (repetition_positive (R i) (seven i w)) (rarer (1 + j) b))),
        ))

    pub needed_falls : (g : ℕ) → slots_before group' R' m' g ≤ slots_before group R m g
    needed_falls g =
        sum_le (λ k. slots_for (group_load group' R' m' k)) (λ k. slots_for (group_load group R m k)) g
        (λ k l. omega (arith, load_falls k))

-- the same signals
pub needed_monotone : (group R R' : ℕ → ℕ) (m : ℕ) → EachTo m (λ i. Repetition (R i)) → EachTo m (λ i. R i ≤ R' i)
    → (g : ℕ) → slots_before group R' m g ≤ slots_before group R m g
needed_monotone group R R' m seven rarer =
    needed_falls group group R R' (λ i. i) m m seven (λ i j l h k. h) (λ i b. b) (λ i b. refl) rarer
