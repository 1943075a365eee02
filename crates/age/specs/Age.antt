-- What an age is, sentence by sentence of "Age". `first` is the frame's first start, `span` the time from one of its
-- starts to the next, `packing` the packing time, `slot` the slot length.
use Rattle.std.specs.Prelude.{◌≡◌, ℕ, ◌+◌, ◌*◌, ◌-◌, ◌≤◌}
use Rattle.terms.specs.declared.Settings.{Settings}
use Rattle.terms.specs.declared.Signal.{Signal}
use Rattle.terms.specs.declared.Frame.{Frame}

-- t is one of the frame's starts
abbrev pub Start : (first span t : ℕ) → Type 0
Start first span t = (k : ℕ) × (t ≡ first + k * span)

-- "Values are released at the offset and every period after it."
abbrev pub Release : (offset period r : ℕ) → Type 0
Release offset period r = (j : ℕ) × (r ≡ offset + j * period)

-- "A value goes out in the first frame that starts at least the packing time after its release."
pub record Carries (first span packing r t : ℕ) : Type 0 where
  pub start : Start first span t
  pub packed : r + packing ≤ t
  pub earliest : (u : ℕ) → Start first span u → r + packing ≤ u → t ≤ u

-- "Its age is that start, minus the release, plus one slot length."
pub record ValueAge (first span packing slot r a : ℕ) : Type 0 where
  pub sent : ℕ
  pub carries : Carries first span packing r sent
  pub age : a + r ≡ sent + slot

-- "The signal's age is the largest over all releases."
pub record IsAge (first span packing slot offset period a : ℕ) : Type 0 where
  pub release : ℕ
  pub released : Release offset period release
  pub reached : ValueAge first span packing slot release a
  pub largest : (r b : ℕ) → Release offset period r → ValueAge first span packing slot r b → b ≤ a

-- "Slot k of a cycle starts at (k − 1) times the slot length." "Its first start is base times cycle length plus the
-- slot's start; it starts again every R cycles."
abbrev pub first_start : Settings → Frame → ℕ
first_start s f = f.base * s.cycle + (f.slot - 1) * s.slot

abbrev pub span_of : Settings → Frame → ℕ
span_of s f = f.repetition * s.cycle

-- a is the age of signal x in frame f
abbrev pub Age : Settings → Signal → Frame → ℕ → Type 0
Age s x f a = IsAge (first_start s f) (span_of s f) s.packing s.slot x.offset x.period a
