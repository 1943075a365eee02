-- Frames that show the filling: they are drawn rightly, use the slots needed, and are those of "Filling the table".
-- Assumes nothing.
use mathlib.Core.Path.{◌≡◌, refl, sym, ap, ◌∙◌}
use mathlib.Core.List.{List, Memᴰ}
use mathlib.Core.Logic.{inl, inr}
use Prim.Native.Nat.{ℕ, ◌+◌, ◌-◌, ◌≤◌, ◌<◌, min}
use native.Mathlib.Nat.{add-sub_of_le}
use native.Mathlib.Omega.{arith}
use Rattle.laws.specs.Lowest.{Between, EachTo}
use Rattle.laws.specs.Sums.{same}
use Rattle.laws.proofs.SumLaws.{same_equal, same_apart, sum_ext, sum_const, sum_zero, sum_split, sum_term}
use Rattle.terms.specs.declared.Frame.{Frame}
use Rattle.terms.specs.Ranges.{Repetition, FrameInRange}
use Rattle.terms.specs.Lists.{count, group_of, groups}
use Rattle.terms.proofs.RepetitionLaws.{repetition_most}
use Rattle.cycles.specs.Frames.{Sends}
use Rattle.filling.specs.Runs.{Placed}
use Rattle.filling.specs.Filled.{needed, filled}
use Rattle.filling.specs.Drawn.{Drawn, slot_used, slots_used, Before, InUse, FillingShown}
use Rattle.filling.proofs.PlacedLaws.{SoonerAt, within, UsedBefore}
use Rattle.filling.proofs.FilledLaws.{In, filled_own, filled_some, filled_range, filled_slots, filled_groups}
use Rattle.filling.proofs.FilledLaws.{filled_one_group, filled_apart, filled_onward, filled_passed}

module _ (list : List ℕ) (R : ℕ → ℕ) (frame : ℕ → Frame)
    (shows : (p : Placed) → Memᴰ p (filled list R) → frame p.signal ≡ p.frame)
  where
    abbrev m : ℕ
    m = count list

    abbrev group : ℕ → ℕ
    group = group_of list

    -- what holds of each place holds of each frame shown, and what holds of two places holds of two frames
    pub each_frame : (P : ℕ → Frame → Type 0) → ((p : Placed) → In list R p → P p.signal p.frame)
        → EachTo m (λ i. P i (frame i))
    each_frame P h i b =
        let r = filled_some list R i b in
        rw (sym r.2, shows r.0 r.1) (h r.0 r.1)

    pub two_frames : (P : ℕ → ℕ → Frame → Frame → Type 0)
        → ((p q : Placed) → In list R p → In list R q → P p.signal q.signal p.frame q.frame)
        → (i j : ℕ) → Between 1 m i → Between 1 m j → P i j (frame i) (frame j)
    two_frames P h i j a b =
        each_frame (λ i f. P i j f (frame j))
        (λ p x. each_frame (λ j g. P p.signal j p.frame g) (λ q y. h p q x y) j b) i a

    module _ (seven : EachTo m (λ i. Repetition (R i))) (grp : EachTo m (λ i. group i < groups)) where
      -- ---- drawn rightly

      pub filled_drawn : (n : ℕ) → needed list R ≤ n → Drawn n m group frame
      filled_drawn n fits =
          record {
            frames =
                each_frame (λ i f. FrameInRange n f)
                (λ p a. let f = filled_range list R seven grp p a in within f (omega (arith, f.slot, fits)));
            apart = λ i j k c a b l.
                two_frames (λ i j f g. Sends f k c → Sends g k c → i ≡ j)
                (λ p q x y d e. ap (λ (z : Placed). z.signal) (filled_apart list R seven p q x y k c d e)) i j a b;
            one_group = two_frames (λ i j f g. f.slot ≡ g.slot → group i ≡ group j) (filled_one_group list R seven);
          }

      -- ---- the slots used

      slot_held : (k : ℕ) → Between 1 (needed list R) k → (j : ℕ) × Between 1 m j × ((frame j).slot ≡ k)
      slot_held k b =
          let r = filled_slots list R seven k b in
          (r.0.signal, (filled_own list R r.0 r.1).0, ap (λ (f : Frame). f.slot) (shows r.0 r.1) ∙ r.2)

      slot_needed : EachTo m (λ i. (frame i).slot ≤ needed list R)
      slot_needed = each_frame (λ i f. f.slot ≤ needed list R) (λ p a. (filled_range list R seven grp p a).slot.1)

      pub filled_used : (n : ℕ) → needed list R ≤ n → slots_used n m frame ≡ needed list R
      filled_used n fits =
          let N = needed list R in
          ap (λ (k : ℕ). slots_used k m frame) (sym (add-sub_of_le fits))
          ∙ sum_split used N (n - N)
          ∙ omega (arith, sum_ext used (λ k. 1) N once, sum_const 1 N, sum_zero (λ k. used (N + k)) (n - N) unused)
        where
          used : ℕ → ℕ
          used k = slot_used m frame (1 + k)

          in_slot : (k i : ℕ) → ℕ
          in_slot k i = same (frame (1 + i)).slot (1 + k)

          once : (k : ℕ) → k < needed list R → used k ≡ 1
          once k l =
              let r = slot_held (1 + k) (omega arith) in
              let i = r.0 - 1 in
              let place : 1 + i ≡ r.0 = omega (arith, r.1) in
              let here = same_equal (frame (1 + i)).slot (1 + k) (ap (λ (j : ℕ). (frame j).slot) place ∙ r.2) in
              omega (arith, sum_term (in_slot k) m i (omega (arith, r.1)), here)

          unused : (k : ℕ) → k < n - needed list R → used (needed list R + k) ≡ 0
          unused k h =
              let past = needed list R + k in
              ap (min 1)
              (sum_zero (in_slot past) m (λ i l.
              same_apart (frame (1 + i)).slot (1 + past) (λ e. omega (arith, e, slot_needed (1 + i) (omega arith)))))

      -- ---- "Filling the table"

      -- the frame f of signal i goes before the frame g of signal j
      abbrev Goes : (i j : ℕ) → (f g : Frame) → Type 0
      Goes i j f g =
          (group i ≡ group j) × SoonerAt (record { signal = i; frame = f }) (record { signal = j; frame = g })

      -- a cell in use by a place before p is so by a frame that goes before that of p
      sent_before : (p : Placed) → In list R p → {k c : ℕ} → UsedBefore group (filled list R) p k c
          → (j : ℕ) × Between 1 m j × Before group frame j p.signal × Sends (frame j) k c
      sent_before p a {k} {c} u =
          let q = u.place in
          let e = shows q u.among in
          let before : Before group frame q.signal p.signal = rw (e, shows p a) (u.group_same, u.sooner) in
          (q.signal, (filled_own list R q u.among).0, before, rw e u.sends)

      pub filled_shown : FillingShown m group frame
      filled_shown =
          record {
            units = two_frames (λ i j f g. group i < group j → f.slot < g.slot) (filled_groups list R seven);
            lowest = λ i k b l. slot_held k (omega (arith, l, slot_needed i b));
            onward =
                two_frames (λ i j f g. Goes i j f g → f.slot ≤ g.slot)
                (λ p q a b w. filled_onward list R seven p q a b w.0 w.1);
            full = λ i j c.
                two_frames (λ i j f g. Goes i j f g → f.slot < g.slot → c < 64 → InUse m frame f.slot c)
                (λ p q a b w l small.
                let x = sent_before q b (filled_passed list R seven q p b a w.0 c small (inl l)) in
                (x.0, x.1, x.3)) i j;
            first_free = λ i c.
                each_frame
                (λ i f. c < f.base → (j : ℕ) × Between 1 m j × Before group frame j i × Sends (frame j) f.slot c)
                (λ p a l.
                let f = filled_range list R seven grp p a in
                let most = repetition_most p.frame.repetition f.repetition in
                let small : c < 64 = omega (arith, l, f.base, most) in
                sent_before p a (filled_passed list R seven p p a a refl c small (inr (refl, l)))) i;
          }
