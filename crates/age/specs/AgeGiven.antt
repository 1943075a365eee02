-- What the routines of this room give, for all inputs.
use Rattle.std.specs.Prelude.{ℕ, ◌%◌, ◌<◌}
use Rattle.laws.specs.Given.{Given}
use Rattle.terms.specs.declared.Settings.{Settings}
use Rattle.terms.specs.declared.Signal.{Signal}
use Rattle.terms.specs.declared.Frame.{Frame}
use Rattle.terms.specs.Ranges.{Valid, FrameInRange}
use Rattle.age.specs.Age.{Age}
use Rattle.age.specs.Formula.{Longest}

abbrev pub frame_in : (slot R base : ℕ) → Frame
frame_in slot R base = record { slot = slot; repetition = R; base = base }

pub record InRange (s : Settings) (x : Signal) (f : Frame) : Type 0 where
  pub valid : Valid s x
  pub frame : FrameInRange s.slots f

-- "Asked of one frame alone, the age is 0 exactly where a setting, the signal or the frame is out of range."
abbrev pub AgeGiven : Settings → Signal → Frame → ℕ → Type 0
AgeGiven s x f a = Given (InRange s x f) (Age s x f) a

-- the largest number below the limit that leaves what n leaves by g, or 0 where there is none
abbrev pub LongestGiven : (limit n g w : ℕ) → Type 0
LongestGiven limit n g w = Given ((0 < g) × (n % g < limit)) (Longest limit g (n % g)) w
