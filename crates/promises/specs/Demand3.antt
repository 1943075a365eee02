-- Demand 3: "With valid settings, a valid list and room: refused exactly when no collision-free table under the rule exists; an
-- accepted plan is one and uses the fewest slots of any. Raising bounds up to their periods, or striking signals, never turns
-- accepted into refused nor costs a slot." Of any way to plan.
use Rattle.std.specs.Prelude.{◌≡◌, List, ◌↔◌, ℕ, ◌≤◌}
use Rattle.terms.specs.declared.Settings.{Settings}
use Rattle.terms.specs.declared.Frame.{Frame}
use Rattle.laws.specs.Lowest.{Between}
use Rattle.terms.specs.Ranges.{SettingsInRange, SignalInRange}
use Rattle.terms.specs.Lists.{CountInRange, count, signal_at, EachSignal}
use Rattle.rule.specs.Rule.{Repetitions}
use Rattle.promises.specs.Calls.{Routine, Always, WhereDone}
use Rattle.promises.specs.Shows.{frame_of, age_of, Planning}
use Rattle.filling.specs.Drawn.{slots_used}
use Rattle.promises.specs.Tables.{Table}
use Rattle.promises.specs.Changes.{Eased}

-- what an accepted plan is, of the frames and ages that it shows, whether in words or in bytes
pub record AcceptedPlan (s : Settings) (list : List ℕ) (place : ℕ) (frame : ℕ → Frame) (age : ℕ → ℕ) : Type 0 where
  -- each repetition shown is the rule's own, the largest that keeps the bound
  pub rule : Repetitions s list (λ i. (frame i).repetition)
  -- the frames shown are a table
  pub table : Table s list frame
  -- every age shown is at most its bound
  pub bounds : (i : ℕ) → Between 1 (count list) i → age i ≤ (signal_at list i).bound
  -- the place is the number of slots that they use, and no table of any repetitions that keep uses fewer
  pub used : slots_used s.slots (count list) frame ≡ place
  pub fewest : (other : ℕ → Frame) → Table s list other → place ≤ slots_used s.slots (count list) other

-- "With valid settings, a valid list and room"
pub record Ready {Asked Room : Type 0} (p : Planning Asked Room) (x : Asked) (l : Room) : Type 0 where
  pub settings : SettingsInRange (p.settings x)
  pub whole : CountInRange (p.list x)
  pub signals : EachSignal (p.list x) (SignalInRange (p.settings x))
  pub enough : p.enough x l

pub record Demand3 {Asked Room : Type 0} (p : Planning Asked Room) (Gives : Routine Asked Room) : Type 0 where
  -- "refused exactly when no collision-free table under the rule exists": of any repetitions that keep the bounds, and of
  -- exactly those that the rule gives
  pub refused_exactly :
      Always Gives
      (λ x l y. Ready p x l → (y.number ≡ 0 → ⊥) ↔ ((frame : ℕ → Frame) → Table (p.settings x) (p.list x) frame → ⊥))
  pub refused_strictly :
      Always Gives
      (λ x l y.
      Ready p x l →
      (y.number ≡ 0 → ⊥)
      ↔ ((frame : ℕ → Frame) →
      Table (p.settings x) (p.list x) frame →
      Repetitions (p.settings x) (p.list x) (λ i. (frame i).repetition) →
      ⊥))
  -- "an accepted plan is one and uses the fewest slots of any"
  pub accepted :
      WhereDone Gives
      (λ x l y. AcceptedPlan (p.settings x) (p.list x) y.place (frame_of (p.word y.lent)) (age_of (p.word y.lent)))
  -- "Raising bounds up to their periods, or striking signals, never turns accepted into refused nor costs a slot": of a second
  -- call, under the same settings and with room
  pub eased :
      WhereDone Gives
      (λ x l y.
      Always Gives
      (λ x' l' y'.
      p.settings x' ≡ p.settings x →
      Eased (p.list x) (p.list x') →
      p.enough x' l' →
      (y'.number ≡ 0) × (y'.place ≤ y.place)))
