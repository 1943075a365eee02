-- The cycles that a frame names are those that leave its base when divided by its repetition.
-- Assumes nothing.
use mathlib.Core.Path.{◌≡◌}
use mathlib.Core.Logic.Dec
use Prim.Native.Nat.{ℕ, ◌/◌, ◌%◌, ◌<◌}
use native.Mathlib.Nat.{mod-eq_of_lt, add-mul-mod_self_right, div-add-mod'}
use native.Mathlib.Decide.{ℕ_discrete, map_dec}
use native.Mathlib.Omega.{arith}
use Rattle.terms.specs.declared.Frame.{Frame}
use Rattle.terms.specs.Ranges.{Repetition, FrameInRange}
use Rattle.cycles.specs.Frames.{Names, Sends}

pub named_remainder : {R b c : ℕ} → Names R b c → c % R ≡ b
named_remainder n = rw (n.again.1, add-mul-mod_self_right) (mod-eq_of_lt n.base)

pub remainder_named : {R b c : ℕ} → Repetition R → b < R → c % R ≡ b → Names R b c
remainder_named {R} {b} {c} r h e =
    record { repetition = r; base = h; again = (c / R, omega (arith, div-add-mod' c R)) }

-- a frame goes out in a slot of a cycle or not
pub sends_or_not : {n : ℕ} (f : Frame) → FrameInRange n f → (k c : ℕ) → Dec (Sends f k c)
sends_or_not f r k c =
    Dec.and (ℕ_discrete f.slot k)
    (map_dec (remainder_named r.repetition r.base) named_remainder (ℕ_discrete (c % f.repetition) f.base))
