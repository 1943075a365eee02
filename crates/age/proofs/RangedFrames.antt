-- What the ranges say of a frame's numbers: its first start lies before its span ends, and all are small.
use Prim.Native.Nat.{◌+◌, ◌-◌, ◌≤◌, ◌<◌}
use native.Mathlib.Nat.{mul-le-mul_right, mul-le-mul}
use native.Mathlib.Omega.{arith}
use Rattle.terms.proofs.RepetitionLaws.{repetition_most}
use Rattle.terms.specs.declared.Settings.{Settings}
use Rattle.terms.specs.declared.Signal.{Signal}
use Rattle.terms.specs.declared.Frame.{Frame}
use Rattle.laws.specs.Lowest.{Between}
use Rattle.terms.specs.Ranges.{SettingsInRange}
use Rattle.age.specs.Age.{first_start, span_of}
use Rattle.age.specs.AgeGiven.{InRange}

-- a frame in a slot of the segment, in a cycle below its repetition, starts before its span ends
pub first_below : (s : Settings) (f : Frame) → SettingsInRange s → Between 1 s.slots f.slot
    → f.base < f.repetition → first_start s f < span_of s f
first_below s f v h l =
    let before : f.slot - 1 + 1 ≤ s.slots = omega arith in
    omega (arith, mul-le-mul_right s.cycle l, mul-le-mul_right s.slot before)

-- the formula's sums fit 32 bits
pub record FrameBounded (s : Settings) (x : Signal) (f : Frame) : Type 0 where
  pub first_below : first_start s f < span_of s f
  pub span_most : span_of s f ≤ 1024000
  pub packing_most : s.packing ≤ 16000
  pub slot_most : s.slot ≤ 16000
  pub period_least : 0 < x.period

pub frame_bounded : (s : Settings) (x : Signal) (f : Frame) → InRange s x f → FrameBounded s x f
frame_bounded s x f r =
    let most = repetition_most f.repetition r.frame.repetition in
    let span : span_of s f ≤ 1024000 = mul-le-mul {m₂ = 16000} most (omega arith) in
    omega (arith, first_below s f r.valid.settings r.frame.slot r.frame.base, span)
