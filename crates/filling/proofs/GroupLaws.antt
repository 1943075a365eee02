-- Filling as a fold over the frames: each group's frames are a run of their own, so that no frame is in trouble and in
-- the end each group has begun the slots that it needs.
-- Assumes nothing.
use mathlib.Core.Path.{◌≡◌, refl, sym}
use mathlib.Core.Bool.{Bool, true, false, cond}
use mathlib.Core.List.{List, [], ◌∷◌, Memᴰ}
use Prim.Native.Nat.{ℕ, ◌+◌, ◌*◌, ◌/◌, ◌≤◌}
use native.Mathlib.Nat.{zero-add, zero-mul, one-mul}
use borrow.Author.Tests.{eqb-true, eqb-false}
use lib.Dec.{eqb}
use Rattle.laws.specs.Sums.{same}
use Rattle.laws.proofs.SumLaws.{total, same_equal, same_apart}
use Rattle.terms.specs.Ranges.{Repetition}
use Rattle.cycles.specs.Loads.{slots_for}
use Rattle.filling.specs.declared.UnitFrame.{UnitFrame}
use Rattle.filling.specs.Runs.{State, after}
use Rattle.filling.specs.Filled.{changed}
use Rattle.filling.proofs.OrderLaws.{InTurn, Sooner, sooner_rises}
use Rattle.filling.proofs.OrderLaws.InTurn.{none, ahead}
use Rattle.filling.proofs.RunLaws.{Good, Fits, raised, fits, after_good, end_reaches}

module _ (group : ℕ → ℕ) where
  -- ---- the groups' states

  -- the state of a frame's group, and all states after the frame
  abbrev pub current : (ℕ → State) → UnitFrame → State
  current states f = states (group f.signal)

  abbrev pub stepped : (ℕ → State) → UnitFrame → ℕ → State
  stepped states f = changed states (group f.signal) (after (current states f) f)

  -- what holds of the changed state and of all others holds of each
  pub stepped_each : (P : ℕ → State → Type 0) (states : ℕ → State) (f : UnitFrame)
      → P (group f.signal) (after (current states f) f)
      → ((h : ℕ) → (h ≡ group f.signal → ⊥) → P h (states h))
      → (h : ℕ) → P h (stepped states f h)
  stepped_each P states f here other h = go (eqb h (group f.signal)) refl
    where
      go : (b : Bool) → eqb h (group f.signal) ≡ b → P h (cond b (after (current states f) f) (states h))
      go true e = rw (eqb-true h (group f.signal) e) here
      go false e = other h (eqb-false h (group f.signal) e)

  -- the load of group g among frames
  abbrev pub load_of : List UnitFrame → ℕ → ℕ
  load_of fs g = total (λ f. same (group f.signal) g * (64 / f.repetition)) fs

  -- ---- no frame is in trouble

  -- each group has the slots behind `first g` that `load g` needs
  module _ (first load : ℕ → ℕ) where
    abbrev pub last : ℕ → ℕ
    last g = first g + slots_for (load g)

    -- at each frame the first free cycle is below its repetition and all its cycles are free; at the end all slots are
    -- begun
    abbrev pub Untroubled : (ℕ → State) → List UnitFrame → Type 0
    Untroubled states [] = (g : ℕ) → last g ≤ (states g).begun
    Untroubled states (f ∷ fs) =
        Fits (first (group f.signal)) (load (group f.signal)) (current states f) f
        × Untroubled (stepped states f) fs

    -- every group's run is as it is to be
    abbrev pub AllGood : (Q : ℕ) → (ℕ → State) → List UnitFrame → Type 0
    AllGood Q states fs = (g : ℕ) → Good Q (first g) (load g) (load_of fs g) (states g)

    -- frames of the seven repetitions, by rising repetition from Q on
    pub untroubled : (fs : List UnitFrame) (states : ℕ → State) (Q : ℕ) → Repetition Q → InTurn Sooner fs
        → ((f : UnitFrame) → Memᴰ f fs → Repetition f.repetition × (Q ≤ f.repetition))
        → AllGood Q states fs → Untroubled states fs
    unfolding total
    untroubled [] states Q q none each all = λ g. end_reaches (all g)
    untroubled (f ∷ fs) states Q q (ahead a t) each all =
        let h = each f (Memᴰ.head refl) in
        let g = group f.signal in
        let here : AllGood f.repetition states (f ∷ fs) = λ g. raised q h.0 h.1 (all g) in
        let own = rw (same_equal g g refl, one-mul) at (here g) in (
          fits (first g) (load g) (load_of fs g) (states g) f h.0 own,
          untroubled fs (stepped states f) f.repetition h.0 t
              (λ x m. ((each x (Memᴰ.tail m)).0, sooner_rises (a x m)))
              (stepped_each (λ h s. Good f.repetition (first h) (load h) (load_of fs h) s) states f
              (after_good (first g) (load g) (load_of fs g) (states g) f h.0 own)
              (λ k n. rw (same_apart g k (λ e. n (sym e)), zero-mul, zero-add) at (here k))),
        )
