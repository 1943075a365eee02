-- For private contracts alone: the bound of a signal in one frame, and at every slot of one base cycle.
use Rattle.std.specs.Prelude.{ℕ, ◌+◌, ◌≤◌, ◌<◌}
use Rattle.terms.specs.declared.Settings.{Settings}
use Rattle.terms.specs.declared.Signal.{Signal}
use Rattle.terms.specs.declared.Frame.{Frame}
use Rattle.age.specs.Age.{Age}
use Rattle.age.specs.AgeGiven.{frame_in}

abbrev pub KeptIn : Settings → Signal → Frame → Type 0
KeptIn s x f = (a : ℕ) → Age s x f a → a ≤ x.bound

-- the slots counted from 0
abbrev pub KeptAt : Settings → Signal → (R b : ℕ) → Type 0
KeptAt s x R b = (k : ℕ) → k < s.slots → KeptIn s x (frame_in (k + 1) R b)
