-- The laws of `filled`: each signal has one frame, with its repetition; and where the repetitions are of the seven, no
-- frame is in trouble, each is in the slots needed, no slot is left out, and no cell has two.
-- Assumes nothing.
use mathlib.Core.Path.{◌≡◌, refl, sym, ap, subst, ◌∙◌}
use mathlib.Core.Logic.{inl, ⊎_elim, dite}
use mathlib.Core.List.{List, Memᴰ}
use Prim.Native.Nat.{ℕ, suc, ◌*◌, ◌/◌, ◌≤◌, ◌<◌, zero-le}
use native.Mathlib.Nat.{mod-eq_of_lt}
use native.Mathlib.Decide.{dec_le, dec_lt}
use native.Mathlib.Omega.{arith}
use Rattle.laws.specs.Lowest.{Between, EachTo}
use Rattle.laws.specs.Sums.{sum, same}
use Rattle.laws.proofs.SumLaws.{sum_longer, sum_reaches}
use Rattle.terms.specs.Ranges.{Repetition, FrameInRange}
use Rattle.terms.specs.Lists.{count, group_of, groups}
use Rattle.terms.proofs.RepetitionLaws.{repetition_positive, repetition_most}
use Rattle.cycles.specs.Frames.{Sends}
use Rattle.cycles.specs.Loads.{slots_for}
use Rattle.cycles.proofs.FrameLaws.{remainder_named}
use Rattle.filling.specs.declared.UnitFrame.{UnitFrame}
use Rattle.filling.specs.Ordered.{ordered}
use Rattle.filling.specs.Runs.{Placed, State, start}
use Rattle.filling.specs.Filled.{group_load, slots_before, needed, frames_from, filled}
use Rattle.filling.proofs.OrderLaws.{two_in_turn, sooner_apart, ordered_total, ordered_from, ordered_in}
use Rattle.filling.proofs.OrderLaws.{frames_own, frames_in, frames_total, order_sooner, order_seven}
use Rattle.filling.proofs.RunLaws.{start_good, InSlots}
use Rattle.filling.proofs.CellLaws.{Past}
use Rattle.filling.proofs.GroupLaws.{load_of, last, Untroubled, untroubled}
use Rattle.filling.proofs.PlacedLaws.{SoonerAt, within, group_at, place_from, place_for, places_sooner}
use Rattle.filling.proofs.PlacedLaws.{UsedBefore, places_in, places_apart, passed_used, slots_used}

module _ (list : List ℕ) (R : ℕ → ℕ) where
  abbrev m : ℕ
  m = count list

  abbrev group : ℕ → ℕ
  group = group_of list

  -- the slots before each group, its load and its state at first, and the frames in order
  abbrev pub before : ℕ → ℕ
  before g = slots_before group R m g

  abbrev pub load : ℕ → ℕ
  load g = group_load group R m g

  abbrev pub states : ℕ → State
  states g = start (before g)

  abbrev pub frames : List UnitFrame
  frames = ordered (frames_from R m 1)

  abbrev pub In : Placed → Type 0
  In p = Memᴰ p (filled list R)

  -- ---- each signal has one frame, with its repetition

  pub filled_own : (p : Placed) → In p → Between 1 m p.signal × (p.frame.repetition ≡ R p.signal)
  filled_own p a =
      let o = frames_own R m 1 (ordered_from (frames_from R m 1) (place_from group frames states a)) in
      ((o.low, omega (arith, o.high)), o.given)

  pub filled_some : EachTo m (λ i. (p : Placed) × In p × (p.signal ≡ i))
  filled_some i b =
      let r = place_for group frames states (ordered_in (frames_from R m 1) (frames_in R m 1 i b.0 (omega arith))) in
      (r.0, r.1, ap (λ (f : UnitFrame). f.signal) r.2)

  pub filled_only : (p q : Placed) → In p → In q → p.signal ≡ q.signal → p ≡ q
  filled_only p q a b e =
      ⊎_elim (λ s. s) (λ s. absurd (⊎_elim (never p q a b e) (never q p b a (sym e)) s))
      (two_in_turn (places_sooner group (order_sooner R m) states) a b)
    where
      never : (x y : Placed) → In x → In y → x.signal ≡ y.signal → SoonerAt x y → ⊥
      never x y c d f s =
          let given = (filled_own x c).1 ∙ ap R f ∙ sym (filled_own y d).1 in
          ⊎_elim (λ l. omega (arith, given, l)) (λ l. omega (arith, f, l.1)) s

  module _ (seven : EachTo m (λ i. Repetition (R i))) where
    -- ---- no frame is in trouble

    all_load : (g : ℕ) → load_of group frames g ≡ load g
    all_load g =
        let t : UnitFrame → ℕ = λ f. same (group f.signal) g * (64 / f.repetition) in
        ordered_total t (frames_from R m 1) ∙ frames_total R t m 1

    pub filled_untroubled : Untroubled group before load states frames
    filled_untroubled =
        untroubled group before load frames states 1 (0, zero-le, refl) (order_sooner R m)
        (λ f a. let r = order_seven R m seven f a in (r, repetition_positive f.repetition r))
        (λ g. rw (all_load g) (start_good 1 (before g) (load g)))

    -- ---- in the slots needed

    -- the group of a place
    abbrev owner : Placed → ℕ
    owner p = group_at group p

    in_slots : (p : Placed) → In p → InSlots (before (owner p)) (load (owner p)) p.frame
    in_slots p a = places_in group before load frames states filled_untroubled a

    -- the slots of a group are behind those of the groups before it
    groups_apart : (g h : ℕ) → g < h → last group before load g ≤ before h
    unfolding sum
    groups_apart g h l = sum_longer (λ k. slots_for (load k)) (suc g) h l

    pub filled_range : EachTo m (λ i. group i < groups) → (p : Placed) → In p → FrameInRange (needed list R) p.frame
    filled_range grp p a =
        let f = (in_slots p a).frame in
        within f (omega (arith, f.slot, groups_apart (owner p) groups (grp p.signal (filled_own p a).0)))

    -- no slot needed is left out
    pub filled_slots : (k : ℕ) → Between 1 (needed list R) k → (p : Placed) × In p × (p.frame.slot ≡ k)
    filled_slots k b =
        let r = sum_reaches (λ g. slots_for (load g)) groups k b.0 b.1 in
        slots_used group before load frames states filled_untroubled r.0 k r.2 r.3

    -- ---- two places

    -- "Units with a signal go in rising number."
    pub filled_groups : (p q : Placed) → In p → In q → owner p < owner q → p.frame.slot < q.frame.slot
    filled_groups p q a b l =
        omega (arith, (in_slots p a).frame.slot, groups_apart (owner p) (owner q) l, (in_slots q b).past)

    pub filled_one_group : (p q : Placed) → In p → In q → p.frame.slot ≡ q.frame.slot → owner p ≡ owner q
    filled_one_group p q a b e =
        dite (dec_lt (owner p) (owner q)) (λ l. absurd (omega (arith, e, filled_groups p q a b l))) (λ l.
        dite (dec_lt (owner q) (owner p)) (λ k. absurd (omega (arith, e, filled_groups q p b a k))) (λ k. omega arith))

    pub filled_apart : (p q : Placed) → In p → In q → (k c : ℕ) → Sends p.frame k c → Sends q.frame k c → p ≡ q
    filled_apart p q a b k c x y =
        let e = filled_one_group p q a b (x.0 ∙ sym y.0) in
        ⊎_elim (λ s. s)
        (λ s. absurd (⊎_elim (λ l. l e k c x y) (λ l. l (sym e) k c y x) s))
        (two_in_turn (places_apart group before load frames states filled_untroubled) a b)

    -- every cell of a group's slots before a place is in use by a place of the group whose frame goes before
    pub filled_passed : (p q : Placed) → In p → In q → owner q ≡ owner p → (c : ℕ) → c < 64
        → Past p q.frame.slot c → UsedBefore group (filled list R) p q.frame.slot c
    filled_passed p q a b e c l w =
        let k = q.frame.slot in
        let behind : before (owner p) < k = subst (λ (g : ℕ). before g < k) e (in_slots q b).past in
        ⊎_elim (λ g. absurd (⊎_elim (λ h. omega (arith, h, behind)) (λ h. omega (arith, h.0, behind)) g)) (λ u. u)
        (passed_used group before load frames states filled_untroubled (order_sooner R m) (λ r i. i) a k c l w)

    -- "A frame goes to the current slot .. else the next slot is begun": else a cell of q would be in use before p
    pub filled_onward : (p q : Placed) → In p → In q → owner p ≡ owner q → SoonerAt p q
        → p.frame.slot ≤ q.frame.slot
    filled_onward p q a b e s =
        dite (dec_le p.frame.slot q.frame.slot) (λ l. l) (λ n.
        let f = (in_slots q b).frame in
        let small : q.frame.base < 64 = omega (arith, f.base, repetition_most _ f.repetition) in
        let u = filled_passed p q a b (sym e) q.frame.base small (inl (omega arith)) in
        let starts = remainder_named f.repetition f.base (mod-eq_of_lt f.base) in
        let one = filled_apart u.place q u.among b _ _ u.sends (refl, starts) in
        absurd (sooner_apart s (rw one at u.sooner)))
