-- The places that filling gives: one for each frame, in the slots of its group; two in one group have no cell in
-- common; every cell before a place is in use by a frame before; no slot is left out.
-- Assumes nothing.
use mathlib.Core.Path.{◌≡◌, refl, sym, ap}
use mathlib.Core.Logic.{◌⊎◌, inl, inr, ⊎_elim, dite}
use mathlib.Core.List.Memᴰ
use mathlib.Core.List.{List, [], ◌∷◌, Memᴰ}
use Prim.Native.Nat.{ℕ, ◌≤◌, ◌<◌}
use native.Mathlib.Decide.{ℕ_discrete}
use native.Mathlib.Omega.{arith}
use Rattle.terms.specs.declared.Frame.{Frame}
use Rattle.terms.specs.Ranges.{FrameInRange}
use Rattle.cycles.specs.Frames.{Sends}
use Rattle.filling.specs.declared.UnitFrame.{UnitFrame}
use Rattle.filling.specs.Runs.{Placed, State, placed, after}
use Rattle.filling.specs.Filled.{fill_from}
use Rattle.filling.proofs.OrderLaws.{InTurn, Sooner}
use Rattle.filling.proofs.OrderLaws.InTurn.{none, ahead}
use Rattle.filling.proofs.RunLaws.{goes_case, goes_next, InSlots}
use Rattle.filling.proofs.CellLaws.{Gone, Past, gone_stays, sent_gone, passed_gone, gone_unsent, gone_or_sent}
use Rattle.filling.proofs.GroupLaws.{current, stepped, stepped_each, last, Untroubled}

-- the frame of a place, as it stood in the order of filling
abbrev pub turn_of : Placed → UnitFrame
turn_of p = record { signal = p.signal; repetition = p.frame.repetition }

-- the frame of place p goes before that of place q
abbrev pub SoonerAt : (p q : Placed) → Type 0
SoonerAt p q = Sooner (turn_of p) (turn_of q)

-- a frame in range of some slots is so of any that reach its own
pub within : {n k : ℕ} {f : Frame} → FrameInRange n f → f.slot ≤ k → FrameInRange k f
within r h = record { slot = (r.slot.0, h); repetition = r.repetition; base = r.base }

module _ (group : ℕ → ℕ) where
  abbrev pub group_at : Placed → ℕ
  group_at p = group p.signal

  -- the place of the next frame, and a place among those of all
  abbrev pub place_of : (ℕ → State) → UnitFrame → Placed
  place_of states f = placed (current group states f) f

  abbrev pub Among : (ℕ → State) → List UnitFrame → Placed → Type 0
  Among states fs p = Memᴰ p (fill_from group states fs)

  -- ---- one place for each frame

  pub place_from : (fs : List UnitFrame) (states : ℕ → State) {p : Placed} → Among states fs p → Memᴰ (turn_of p) fs
  unfolding fill_from
  place_from [] states m = absurd (Memᴰ.not-nil m)
  place_from (f ∷ fs) states (Memᴰ.head e) = Memᴰ.head (ap turn_of e)
  place_from (f ∷ fs) states (Memᴰ.tail m) = Memᴰ.tail (place_from fs (stepped group states f) m)

  pub place_for : (fs : List UnitFrame) (states : ℕ → State) {f : UnitFrame} → Memᴰ f fs
      → (p : Placed) × Among states fs p × (turn_of p ≡ f)
  unfolding fill_from
  place_for [] states m = absurd (Memᴰ.not-nil m)
  place_for (x ∷ fs) states (Memᴰ.head e) = (place_of states x, Memᴰ.head refl, sym e)
  place_for (x ∷ fs) states (Memᴰ.tail m) =
      let r = place_for fs (stepped group states x) m in (r.0, Memᴰ.tail r.1, r.2)

  pub places_sooner : {fs : List UnitFrame} → InTurn Sooner fs → (states : ℕ → State)
      → InTurn SoonerAt (fill_from group states fs)
  unfolding fill_from
  places_sooner none states = none
  places_sooner (ahead {x = f} {l = fs} a t) states =
      ahead (λ q m. a (turn_of q) (place_from fs (stepped group states f) m)) (places_sooner t (stepped group states f))

  -- where places p and q are of one group, they have no cell in common
  abbrev pub Apart : (p q : Placed) → Type 0
  Apart p q = group_at p ≡ group_at q → (k c : ℕ) → Sends p.frame k c → Sends q.frame k c → ⊥

  -- cycle c of slot k is in use by a place of p's group whose frame goes before p's
  pub record UsedBefore (places : List Placed) (p : Placed) (k c : ℕ) : Type 0 where
    pub place : Placed
    pub among : Memᴰ place places
    pub group_same : group_at place ≡ group_at p
    pub sooner : SoonerAt place p
    pub sends : Sends place.frame k c

  module _ (first load : ℕ → ℕ) where
    abbrev WithoutTrouble : (ℕ → State) → List UnitFrame → Type 0
    WithoutTrouble states fs = Untroubled group first load states fs

    -- ---- in the slots of its group

    pub places_in : (fs : List UnitFrame) (states : ℕ → State) → WithoutTrouble states fs → {p : Placed}
        → Among states fs p → InSlots (first (group_at p)) (load (group_at p)) p.frame
    unfolding fill_from
    places_in [] states u m = absurd (Memᴰ.not-nil m)
    places_in (f ∷ fs) states (h, u) (Memᴰ.head e) = rw e h.inside
    places_in (f ∷ fs) states (h, u) (Memᴰ.tail m) = places_in fs (stepped group states f) u m

    -- ---- no cell twice

    -- no place sends a cell that its group's run has gone over
    unsent : (fs : List UnitFrame) (states : ℕ → State) → WithoutTrouble states fs → {p : Placed} → Among states fs p
        → (k c : ℕ) → Gone (states (group_at p)) k c → Sends p.frame k c → ⊥
    unfolding fill_from
    unsent [] states u m k c = absurd (Memᴰ.not-nil m)
    unsent (f ∷ fs) states (h, u) (Memᴰ.head e) k c = rw e (gone_unsent k c (current group states f) f h)
    unsent (f ∷ fs) states (h, u) {p} (Memᴰ.tail m) k c = λ g.
        unsent fs (stepped group states f) u m k c
        (stepped_each group (λ x s. Gone (states x) k c → Gone s k c) states f
        (gone_stays k c (current group states f) f) (λ x n y. y) (group_at p) g)

    pub places_apart : (fs : List UnitFrame) (states : ℕ → State) → WithoutTrouble states fs
        → InTurn Apart (fill_from group states fs)
    unfolding fill_from
    places_apart [] states u = none
    places_apart (f ∷ fs) states (h, u) =
        ahead
        (λ q m e k c sent.
        unsent fs (stepped group states f) u m k c
        (stepped_each group (λ x s. group f.signal ≡ x → Gone s k c) states f
        (λ d. sent_gone k c (current group states f) f sent) (λ x n d. absurd (n (sym d))) (group_at q) e))
        (places_apart fs (stepped group states f) u)

    -- ---- no cell and no slot left out

    -- every cell before a place was gone over at first, or is in use by a place before it
    pub passed_used : (fs : List UnitFrame) (states : ℕ → State) {all : List Placed} → WithoutTrouble states fs
        → InTurn Sooner fs → ((q : Placed) → Among states fs q → Memᴰ q all)
        → {p : Placed} → Among states fs p → (k c : ℕ) → c < 64 → Past p k c
        → Gone (states (group_at p)) k c ⊎ UsedBefore all p k c
    unfolding fill_from
    passed_used [] states u t in_all m k c l b = absurd (Memᴰ.not-nil m)
    passed_used (f ∷ fs) states (h, u) t in_all (Memᴰ.head e) k c l b =
        inl (rw e (passed_gone k c (current group states f) f l (rw e at b)))
    passed_used (f ∷ fs) states {all} (h, u) (ahead a t) in_all {p} (Memᴰ.tail m) k c l b =
        ⊎_elim
        (stepped_each group (λ x s. x ≡ group_at p → Gone s k c → Gone (states x) k c ⊎ UsedBefore all p k c) states f
        here (λ x n e. inl) (group_at p) refl)
        inr (passed_used fs (stepped group states f) u t (λ q i. in_all q (Memᴰ.tail i)) m k c l b)
      where
        here : group f.signal ≡ group_at p → Gone (after (current group states f) f) k c
            → Gone (current group states f) k c ⊎ UsedBefore all p k c
        here e g =
            ⊎_elim inl
            (λ y.
            inr
            (record {
              place = place_of states f;
              among = in_all (place_of states f) (Memᴰ.head refl);
              group_same = e;
              sooner = a (turn_of p) (place_from fs (stepped group states f) m);
              sends = y;
            }))
            (gone_or_sent k c (current group states f) f h l g)

    -- the slots of a group that are not begun yet
    pub slots_used : (fs : List UnitFrame) (states : ℕ → State) → WithoutTrouble states fs
        → (g k : ℕ) → (states g).begun < k → k ≤ last group first load g
        → (p : Placed) × Among states fs p × (p.frame.slot ≡ k)
    unfolding fill_from
    slots_used [] states u g k l h = absurd (omega (arith, u g))
    slots_used (f ∷ fs) states (fits, u) g k l h =
        dite (ℕ_discrete (place_of states f).frame.slot k) (λ e. (place_of states f, Memᴰ.head refl, e)) (λ n.
        let onward = stepped_each group (λ x s. (states x).begun < k → s.begun < k) states f
        (λ b. omega (arith, goes_next (goes_case (current group states f)), n, b)) (λ x d b. b) g l in
        let r = slots_used fs (stepped group states f) u g k onward h in
        (r.0, Memᴰ.tail r.1, r.2))
