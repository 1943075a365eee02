-- Each range is decided: the settings', a signal's, a repetition's, a frame's, and the length of a list.
-- Assumes nothing.
use mathlib.Core.Path.{refl}
use mathlib.Core.List.{List}
use mathlib.Core.Logic.Dec
use mathlib.Core.Logic.{dite}
use Prim.Native.Nat.{ℕ, ◌*◌, ◌%◌}
use native.Mathlib.Decide.{ℕ_discrete, dec_le, dec_lt, map_dec}
use native.Mathlib.Omega.{arith}
use lib.ListN.{length}
use Rattle.laws.specs.Lowest.{Between}
use Rattle.laws.proofs.DecidedLaws.{Decided, decided_hold, decided_row}
use Rattle.terms.specs.declared.Settings.{Settings}
use Rattle.terms.specs.declared.Signal.{Signal}
use Rattle.terms.specs.declared.Frame.{Frame}
use Rattle.terms.specs.Ranges.{setting_rows, SettingsInRange, SignalInRange, Valid, Repetition, FrameInRange}
use Rattle.terms.specs.Lists.{signal_size, count, CountInRange}
use Rattle.terms.proofs.Seven.{divisor, repetition_divides}
use Rattle.terms.proofs.RepetitionLaws.{repetition_positive}

between_or_not : (low high x : ℕ) → Dec (Between low high x)
between_or_not low high x = Dec.and (dec_le low x) (dec_le x high)

-- ---- settings and signals

pub settings_decided : (s : Settings) → Decided (setting_rows s)
settings_decided s =
    decided_row (between_or_not 10 16000 s.cycle) (2, refl) (λ _.
    decided_row (between_or_not 1 16000 s.slot) (3, refl) (λ _.
    decided_row (Dec.and (between_or_not 2 128 s.slots) (dec_le (s.slots * s.slot) s.cycle)) (4, refl) (λ _.
    decided_row (dec_le s.packing 16000) (5, refl) (λ _.
    decided_row (between_or_not 1 127 s.payload) (6, refl) (λ _. tt)))))

pub settings_or_not : (s : Settings) → Dec (SettingsInRange s)
settings_or_not s = decided_hold (setting_rows s) (settings_decided s)

pub signal_or_not : (s : Settings) (x : Signal) → Dec (SignalInRange s x)
signal_or_not s x =
    map_dec (λ (u, (p, (o, (w, b)))). record { unit = u; period = p; offset = o; size = w; bound = b })
    (λ r. (r.unit, (r.period, (r.offset, (r.size, r.bound)))))
    (Dec.and (between_or_not 1 255 x.unit)
    (Dec.and (between_or_not 1 100000000 x.period)
    (Dec.and (dec_lt x.offset x.period)
    (Dec.and (between_or_not 1 (16 * s.payload) x.size) (between_or_not 1 x.period x.bound)))))

pub valid_or_not : (s : Settings) (x : Signal) → Dec (Valid s x)
valid_or_not s x =
    map_dec (λ (i, j). record { settings = i; signal = j }) (λ v. (v.settings, v.signal))
    (Dec.and (settings_or_not s) (signal_or_not s x))

-- ---- frames

pub repetition_or_not : (R : ℕ) → Dec (Repetition R)
repetition_or_not R =
    dite (ℕ_discrete R 0) (λ z. no (λ r. omega (arith, repetition_positive R r, z)))
    (λ n. map_dec (divisor R n) (repetition_divides R) (ℕ_discrete (64 % R) 0))

pub frame_or_not : (slots : ℕ) (f : Frame) → Dec (FrameInRange slots f)
frame_or_not slots f =
    map_dec (λ (k, (r, b)). record { slot = k; repetition = r; base = b })
    (λ r. (r.slot, (r.repetition, r.base)))
    (Dec.and (between_or_not 1 slots f.slot)
    (Dec.and (repetition_or_not f.repetition) (dec_lt f.base f.repetition)))

-- ---- lists

pub count_or_not : (list : List ℕ) → Dec (CountInRange list)
count_or_not list =
    map_dec (λ (w, f). record { whole = w; few = f }) (λ c. (c.whole, c.few))
    (Dec.and (ℕ_discrete (length list % signal_size) 0) (dec_le (count list) 600))
