-- What a `Signals` carries, out of its ghost field: each signal has a group and one of the seven repetitions.
-- Assumes nothing.
use mathlib.Core.Logic.{∥∥₁_elim, ∥∥₁_map}
use native.Mathlib.Bridge.{le_prop}
use native.Mathlib.Nat.{ℕ_set}
use Rattle.age.proofs.FramesLaws.{repetition_there}
use Rattle.filling.specs.declared.groups.Signals.{Signals}
use Rattle.filling.specs.Outcomes.{repetition_in, Grouped}

pub grouped_in : (x : Signals) → Grouped x.list.now x.repetitions.now
grouped_in x =
    record {
      right = ∥∥₁_elim x.grouped (hlevel (le_prop, ℕ_set)) (λ g. g.right);
      given = ∥∥₁_elim x.grouped (hlevel le_prop) (λ g. g.given);
      group = ∥∥₁_elim x.grouped (hlevel le_prop) (λ g. g.group);
      seven = λ i b. repetition_there (repetition_in x.repetitions.now i) (∥∥₁_map x.grouped (λ g. g.seven i b));
    }
