-- The age of a signal in a frame as a test that antt computes, by the paper's equations 6 and 7.
-- Assumes nothing.
use Prim.Native.Nat.{ℕ}
use Rattle.laws.proofs.FactTests.{Test, equal, join, shown}
use Rattle.terms.specs.declared.Settings.{Settings}
use Rattle.terms.specs.declared.Signal.{Signal}
use Rattle.terms.specs.declared.Frame.{Frame}
use Rattle.age.specs.Age.{Age, first_start, span_of}
use Rattle.age.proofs.AgeLaws.{computed, computed_is_age}
use Rattle.age.proofs.RangedFrames.{frame_bounded}
use Rattle.age.specs.AgeGiven.{InRange}
use Rattle.age.proofs.RangeTests.{in_range_test}

-- the age by the paper's equations 6 and 7
abbrev pub computed_age : Settings → Signal → Frame → ℕ
computed_age s x f = computed (first_start s f) (span_of s f) s.packing s.slot x.offset x.period

pub computed_age_lem : (s : Settings) (x : Signal) (f : Frame) → InRange s x f → Age s x f (computed_age s x f)
computed_age_lem s x f r =
    let b = frame_bounded s x f r in
    computed_is_age _ _ _ _ _ _ b.first_below b.period_least

-- the signal and the frame are in range, and a is the age
abbrev pub age_test : (s : Settings) (x : Signal) (f : Frame) (a : ℕ) → Test (InRange s x f × Age s x f a)
age_test s x f a =
    shown (λ (r, e). (r, rw e at (computed_age_lem s x f r))) (join (in_range_test s x f) (equal (computed_age s x f) a))
