-- Settings, a signal and a frame of the words that a C caller hands over, in the order of the book.
use Rattle.std.specs.Prelude.{ℕ}
use Rattle.terms.specs.declared.Settings.{Settings}
use Rattle.terms.specs.declared.Signal.{Signal}
use Rattle.terms.specs.declared.Frame.{Frame}

abbrev pub settings_given : (cycle ticks slots packing payload : ℕ) → Settings
settings_given cycle ticks slots packing payload =
    record { cycle = cycle; slot = ticks; slots = slots; packing = packing; payload = payload }

abbrev pub signal_given : (unit period offset size bound : ℕ) → Signal
signal_given unit period offset size bound =
    record { unit = unit; period = period; offset = offset; size = size; bound = bound }

abbrev pub frame_given : (slot repetition base : ℕ) → Frame
frame_given slot repetition base = record { slot = slot; repetition = repetition; base = base }
