-- For every input there is an age that the contract of `age` allows.
-- Assumes nothing.
use mathlib.Core.Logic.Dec
use mathlib.Core.Logic.{dite}
use Prim.Native.Nat.{ℕ}
use native.Mathlib.Decide.{map_dec}
use Rattle.laws.proofs.GivenLaws.{given_inside, given_outside}
use Rattle.terms.specs.declared.Settings.{Settings}
use Rattle.terms.specs.declared.Signal.{Signal}
use Rattle.terms.specs.declared.Frame.{Frame}
use Rattle.terms.proofs.RangesDecided.{valid_or_not, frame_or_not}
use Rattle.age.specs.AgeGiven.{InRange, AgeGiven}
use Rattle.age.proofs.AgeTests.{computed_age_lem}

module _ (s : Settings) (x : Signal) (f : Frame) where
  in_range_or_not : Dec (InRange s x f)
  in_range_or_not =
      map_dec (λ h. record { valid = h.0; frame = h.1 }) (λ r. (r.valid, r.frame))
      (Dec.and (valid_or_not s x) (frame_or_not s.slots f))

  pub age_given_exists : (a : ℕ) × AgeGiven s x f a
  age_given_exists =
      dite in_range_or_not (λ r. (_, given_inside _ _ _ r (computed_age_lem s x f r))) (λ n. (0, given_outside _ _ n))
