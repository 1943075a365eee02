-- No frames that are drawn rightly use fewer slots than their groups need: the cells are counted twice, by signals and
-- by slots.
-- Assumes nothing.
use mathlib.Core.Path.{◌≡◌, sym, ap, ◌∙◌}
use Prim.Native.Nat.{ℕ, ◌+◌, ◌*◌, ◌/◌, ◌%◌, ◌≤◌, ◌<◌, min}
use native.Mathlib.Nat.{mul_right_comm, mul-le-mul, mul-le-mul_left, mul-le-mul_right}
use native.Mathlib.Omega.{arith}
use Rattle.laws.specs.Sums.{sum, same}
use Rattle.laws.proofs.Orders.{factors_positive}
use Rattle.laws.proofs.SumLaws.{same_one, same_most, sum_le, sum_ext, sum_const, sum_times, sum_exchange}
use Rattle.laws.proofs.SumLaws.{sum_same_from_one, sum_term, sum_some, sum_one}
use Rattle.terms.specs.declared.Frame.{Frame}
use Rattle.cycles.specs.Frames.{Sends}
use Rattle.cycles.specs.Loads.{slots_for}
use Rattle.cycles.proofs.FrameLaws.{remainder_named}
use Rattle.filling.specs.Cycles.{takes}
use Rattle.filling.specs.Filled.{group_load, slots_before}
use Rattle.filling.specs.Drawn.{Drawn, slot_used, slots_used}
use Rattle.filling.proofs.CycleLaws.{takes_sum}

module _ (n m : ℕ) (group : ℕ → ℕ) (frame : ℕ → Frame) (drawn : Drawn n m group frame) where
  abbrev R : ℕ → ℕ
  R i = (frame i).repetition

  -- 1 where signal 1 + i is of group g and in slot 1 + k, else 0; and where some signal is
  abbrev in_slot : (g k i : ℕ) → ℕ
  in_slot g k i = same (group (1 + i)) g * same (frame (1 + i)).slot (1 + k)

  abbrev owned : (g k : ℕ) → ℕ
  owned g k = min 1 (sum (in_slot g k) m)

  -- how often signal 1 + i takes cycle c
  abbrev takes_at : (c i : ℕ) → ℕ
  takes_at c i = takes (R (1 + i)) (frame (1 + i)).base c

  abbrev share : ℕ → ℕ
  share i = 64 / R (1 + i)

  in_slot_says : (g k i : ℕ) → 1 ≤ in_slot g k i → (group (1 + i) ≡ g) × ((frame (1 + i)).slot ≡ 1 + k)
  in_slot_says g k i h =
      let f = factors_positive (same (group (1 + i)) g) (same (frame (1 + i)).slot (1 + k)) h in
      (same_one (group (1 + i)) g f.0, same_one (frame (1 + i)).slot (1 + k) f.1)

  -- ---- the cells of one slot

  -- none is taken twice
  once : (g k c : ℕ) → c < 64 → sum (λ i. in_slot g k i * takes_at c i) m ≤ owned g k
  once g k c l = sum_one (λ i. in_slot g k i * takes_at c i) m (owned g k) small apart
    where
      small : (i : ℕ) → i < m → in_slot g k i * takes_at c i ≤ owned g k
      small i h =
          let least = mul-le-mul_left (in_slot g k i) (same_most (frame (1 + i)).base (c % R (1 + i))) in
          let most = mul-le-mul (same_most (group (1 + i)) g) (same_most (frame (1 + i)).slot (1 + k)) in
          omega (arith, least, most, sum_term (in_slot g k) m i h)

      sends : (i : ℕ) → i < m → 1 ≤ in_slot g k i * takes_at c i → Sends (frame (1 + i)) (1 + k) c
      sends i h x =
          let f = factors_positive (in_slot g k i) (takes_at c i) x in
          let d = drawn.frames (1 + i) (omega arith) in
          let base = same_one (frame (1 + i)).base (c % R (1 + i)) f.1 in
          ((in_slot_says g k i f.0).1, remainder_named d.repetition d.base (sym base))

      apart : (i j : ℕ) → i < m → j < m → 1 ≤ in_slot g k i * takes_at c i → 1 ≤ in_slot g k j * takes_at c j → i ≡ j
      apart i j a b x y =
          let one = drawn.apart (1 + i) (1 + j) (1 + k) c (omega arith) (omega arith) l (sends i a x) (sends j b y) in
          omega (arith, one)

  slot_load : (g k : ℕ) → sum (λ i. in_slot g k i * share i) m ≤ 64 * owned g k
  slot_load g k =
      let by_cycles = sum_ext (λ i. in_slot g k i * share i) (λ i. sum (cells i) 64) m each in
      let none_twice = sum_le (λ c. sum (λ i. cells i c) m) (λ c. owned g k) 64 (once g k) in
      omega (arith, by_cycles, sum_exchange cells 64 m, none_twice, sum_const (owned g k) 64)
    where
      cells : (i c : ℕ) → ℕ
      cells i c = in_slot g k i * takes_at c i

      each : (i : ℕ) → i < m → in_slot g k i * share i ≡ sum (cells i) 64
      each i l =
          let d = drawn.frames (1 + i) (omega arith) in
          ap (λ (x : ℕ). in_slot g k i * x) (sym (takes_sum (R (1 + i)) d.repetition (frame (1 + i)).base d.base))
          ∙ sym (sum_times (in_slot g k i) (λ c. takes_at c i) 64)

  -- ---- the slots of a group

  by_slots : (g : ℕ) → group_load group R m g ≡ sum (λ k. sum (λ i. in_slot g k i * share i) m) n
  by_slots g =
      sum_ext (λ i. same (group (1 + i)) g * share i) (λ i. sum (λ k. in_slot g k i * share i) n) m each
      ∙ sum_exchange (λ i k. in_slot g k i * share i) n m
    where
      each : (i : ℕ) → i < m → same (group (1 + i)) g * share i ≡ sum (λ k. in_slot g k i * share i) n
      each i l =
          let x = same (group (1 + i)) g in
          let at : ℕ → ℕ = λ k. same (frame (1 + i)).slot (1 + k) in
          let s = (drawn.frames (1 + i) (omega arith)).slot in
          omega (arith, ap (λ (y : ℕ). x * share i * y) (sum_same_from_one (frame (1 + i)).slot n s.0 s.1))
          ∙ sym (sum_times (x * share i) at n)
          ∙ sum_ext (λ k. x * share i * at k) (λ k. x * at k * share i) n (λ k h. mul_right_comm x (share i) (at k))

  group_slots : (g : ℕ) → slots_for (group_load group R m g) ≤ sum (owned g) n
  group_slots g =
      let each = sum_le (λ k. sum (λ i. in_slot g k i * share i) m) (λ k. 64 * owned g k) n (λ k l. slot_load g k) in
      omega (arith, by_slots g, each, sum_times 64 (owned g) n)

  -- ---- the slots of all groups: a slot has one

  one_owner : (g k : ℕ) → sum (λ h. owned h k) g ≤ slot_used m frame (1 + k)
  one_owner g k = sum_one (λ h. owned h k) g (slot_used m frame (1 + k)) (λ h l. small h) (λ h j a b. same_owner h j)
    where
      small : (h : ℕ) → owned h k ≤ slot_used m frame (1 + k)
      small h =
          let fewer = sum_le (in_slot h k) (λ i. same (frame (1 + i)).slot (1 + k)) m
          (λ i l. omega (arith, mul-le-mul_right (same (frame (1 + i)).slot (1 + k)) (same_most (group (1 + i)) h))) in
          omega (arith, fewer)

      same_owner : (h j : ℕ) → 1 ≤ owned h k → 1 ≤ owned j k → h ≡ j
      same_owner h j x y =
          let a = sum_some (in_slot h k) m (omega (arith, x)) in
          let b = sum_some (in_slot j k) m (omega (arith, y)) in
          let p = in_slot_says h k a.0 a.2 in
          let q = in_slot_says j k b.0 b.2 in
          sym p.0
          ∙ drawn.one_group (1 + a.0) (1 + b.0) (omega (arith, a.1)) (omega (arith, b.1)) (p.1 ∙ sym q.1)
          ∙ q.0

  -- of the groups below g
  pub fewest : (g : ℕ) → slots_before group (λ i. (frame i).repetition) m g ≤ slots_used n m frame
  fewest g =
      let each = sum_le (λ h. slots_for (group_load group R m h)) (λ h. sum (owned h) n) g (λ h l. group_slots h) in
      let one = sum_le (λ k. sum (λ h. owned h k) g) (λ k. slot_used m frame (1 + k)) n (λ k l. one_owner g k) in
      omega (arith, each, sum_exchange owned n g, one)
