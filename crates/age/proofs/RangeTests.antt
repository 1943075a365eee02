-- The ranges as tests that antt computes, with what each shows where it passes.
-- Assumes nothing.
use Prim.Native.Nat.{ℕ, ◌*◌, ◌%◌}
use native.Mathlib.Omega.{arith}
use Rattle.laws.proofs.FactTests.{Test, passing, at_most, less, equal, join, shown}
use Rattle.terms.specs.declared.Settings.{Settings}
use Rattle.terms.specs.declared.Signal.{Signal}
use Rattle.terms.specs.declared.Frame.{Frame}
use Rattle.laws.specs.Lowest.{Between}
use Rattle.terms.specs.Ranges.{SettingsInRange, SignalInRange, Valid, Repetition, FrameInRange}
use Rattle.terms.proofs.Seven.{divisor}
use Rattle.age.specs.AgeGiven.{InRange}

abbrev between : (low high x : ℕ) → Test (Between low high x)
between low high x = join (at_most low x) (at_most x high)

abbrev settings_test : (s : Settings) → Test (SettingsInRange s)
settings_test s =
    join (between 10 16000 s.cycle)
    (join (between 1 16000 s.slot)
    (join (join (between 2 128 s.slots) (at_most (s.slots * s.slot) s.cycle))
    (join (at_most s.packing 16000) (join (between 1 127 s.payload) (passing tt)))))

abbrev signal_test : (s : Settings) (x : Signal) → Test (SignalInRange s x)
signal_test s x =
    shown (λ h. record { unit = h.0; period = h.1.0; offset = h.1.1.0; size = h.1.1.1.0; bound = h.1.1.1.1 })
    (join (between 1 255 x.unit)
    (join (between 1 100000000 x.period)
    (join (less x.offset x.period) (join (between 1 (16 * s.payload) x.size) (between 1 x.period x.bound)))))

abbrev pub valid_test : (s : Settings) (x : Signal) → Test (Valid s x)
valid_test s x = shown (λ h. record { settings = h.0; signal = h.1 }) (join (settings_test s) (signal_test s x))

abbrev pub repetition_test : (R : ℕ) → Test (Repetition R)
repetition_test R = shown (λ h. divisor R (λ z. omega (arith, h.0)) h.1) (join (at_most 1 R) (equal (64 % R) 0))

abbrev frame_test : (s : Settings) (f : Frame) → Test (FrameInRange s.slots f)
frame_test s f =
    shown (λ h. record { slot = h.0; repetition = h.1.0; base = h.1.1 })
    (join (between 1 s.slots f.slot) (join (repetition_test f.repetition) (less f.base f.repetition)))

abbrev pub in_range_test : (s : Settings) (x : Signal) (f : Frame) → Test (InRange s x f)
in_range_test s x f = shown (λ h. record { valid = h.0; frame = h.1 }) (join (valid_test s x) (frame_test s f))
