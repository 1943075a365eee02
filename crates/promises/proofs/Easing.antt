-- Raising bounds never gives a smaller repetition, and striking signals leaves the others as they are. So an eased list
-- stays valid, keeps its bounds and needs no more slots.
-- Assumes nothing.
use mathlib.Core.Path.{subst₂}
use mathlib.Core.List.{List}
use Prim.Native.Nat.{ℕ, zero, suc, ◌≤◌, ◌<◌, zero-le}
use native.Mathlib.Nat.{le_refl}
use native.Mathlib.Omega.{arith}
use Rattle.laws.specs.Lowest.{EachTo}
use Rattle.terms.specs.declared.Settings.{Settings}
use Rattle.terms.specs.declared.Signal.{Signal}
use Rattle.terms.specs.Ranges.{SignalInRange, Repetition}
use Rattle.terms.specs.Lists.{CountInRange, count, signal_at, group_of, groups, EachSignal}
use Rattle.age.specs.Age.{IsAge, first_start, span_of}
use Rattle.age.specs.AgeGiven.{frame_in}
use Rattle.rule.specs.Rule.{Keeps, segment, Kept, Repetitions}
use Rattle.rule.proofs.RuleLaws.{largest_grows}
use Rattle.filling.specs.Filled.{needed}
use Rattle.filling.proofs.LoadLaws.{needed_falls}
use Rattle.promises.specs.Changes.{RaisedSignal, Eased}

keeps_raised : (s : Settings) {x y : Signal} (slots : List ℕ) (R : ℕ) → RaisedSignal x y → Keeps s x slots R → Keeps s y slots R
keeps_raised s slots R r keeps k b a m l p =
    let f = frame_in k R b in
    let older = subst₂ (λ (o t : ℕ). IsAge (first_start s f) (span_of s f) s.packing s.slot o t a) r.offset r.period p in
    omega (arith, keeps k b a m l older, r.raised)

signal_raised : (s : Settings) {x y : Signal} → RaisedSignal x y → SignalInRange s x → SignalInRange s y
signal_raised s r h = omega arith

module _ {list list' : List ℕ} (r : Eased list list') where
  -- a signal never moves back
  forward : (j : ℕ) → j < count list' → j < r.was (suc j)
  forward zero h = (r.within 1 (omega arith)).0
  forward (suc j) h = omega (arith, forward j (omega arith), r.rising (suc j) (suc (suc j)) (omega arith) (omega arith) h)

  fewer : (n : ℕ) → n ≤ count list' → n ≤ count list
  fewer zero h = zero-le
  fewer (suc n) h = omega (arith, forward n h, r.within (suc n) (omega arith))

  pub eased_count : CountInRange list → CountInRange list'
  eased_count c = record { whole = r.whole; few = omega (arith, fewer (count list') (le_refl _), c.few) }

  module _ (s : Settings) where
    pub signals_eased : EachSignal list (SignalInRange s) → EachSignal list' (SignalInRange s)
    signals_eased h j b = signal_raised s (r.raised j b) (h (r.was j) (r.within j b))

    pub kept_eased : EachSignal list (Kept s) → EachSignal list' (Kept s)
    kept_eased h j b =
        let k = h (r.was j) (r.within j b) in
        (k.0, k.1, keeps_raised s (segment s) k.0 (r.raised j b) k.2)

    pub needed_eased : (R Q : ℕ → ℕ) → EachTo (count list) (λ i. Repetition (R i)) → Repetitions s list R → Repetitions s list' Q
        → needed list' Q ≤ needed list R
    needed_eased R Q seven p q =
        needed_falls (group_of list) (group_of list') R Q r.was (count list) (count list') seven r.rising r.within
        (λ j b. (r.raised j b).unit)
        (λ j b.
        largest_grows (Keeps s (signal_at list (r.was j)) (segment s)) (Keeps s (signal_at list' j) (segment s))
        (λ P k. keeps_raised s (segment s) P (r.raised j b) k) (R (r.was j)) (Q j) (p (r.was j) (r.within j b)) (q j b))
        groups
