-- What a `Frames` carries, out of its ghost fields, and what it says of the frames in it: the formula's sums fit 32
-- bits, and the wait given makes the age. There is one such for the settings, a signal and a repetition.
-- Assumes nothing.
use mathlib.Core.Path.{◌≡◌, refl, sym, ap, ◌∙◌}
use mathlib.Core.Bool.{false≢true}
use native.Mathlib.Bridge.{le_prop}
use mathlib.Core.HLevel.{is_prop→PathP}
use mathlib.Core.Logic.{dite, ∥∥₁_map, ∥∥₁_prop}
use Rattle.std.specs.Prelude.{Option, None, Some, IfSome, IsSome, ◌↔◌}
use Prim.Native.Nat.{ℕ, ◌+◌, ◌*◌, ◌-◌, ◌%◌, ◌<◌}
use native.Mathlib.Decide.{ℕ_discrete}
use native.Mathlib.Nat.{mod-lt}
use native.Mathlib.Omega.{arith}
use Rattle.std.proofs.lemmas.Grind.{not_there}
use Rattle.laws.specs.Divisor.{IsGcd}
use Rattle.laws.specs.Lowest.{Between}
use Rattle.laws.proofs.DivisorLaws.{euclid, euclid_gcd, gcd_unique, gcd_positive, divisor_at_most}
use Rattle.terms.specs.declared.Settings.{Settings}
use Rattle.terms.specs.declared.Signal.{Signal}
use Rattle.terms.specs.Ranges.{Valid, Repetition}
use Rattle.terms.proofs.RangesDecided.{repetition_or_not}
use Rattle.age.specs.declared.Frames.{Frames}
use Rattle.age.specs.Age.{Age, first_start}
use Rattle.age.specs.AgeGiven.{frame_in, InRange, LongestGiven}
use Rattle.age.proofs.AgeGivenLaws.{given_age}
use Rattle.age.proofs.FormulaLaws.{remainder_of_multiple}
use Rattle.age.proofs.RangedFrames.{FrameBounded, frame_bounded}

there : {P : Type 0} → Dec P → ∥ P ∥₁ → P
there d t = dite d (λ p. p) (λ n. absurd (not_there t n))

pub repetition_there : (R : ℕ) → ∥ Repetition R ∥₁ → Repetition R
repetition_there R = there (repetition_or_not R)

pub gcd_there : (a b g : ℕ) → ∥ IsGcd a b g ∥₁ → IsGcd a b g
gcd_there a b g t =
    let same = there (ℕ_discrete (euclid b a b) g) (∥∥₁_map t (gcd_unique a b (euclid b a b) g (euclid_gcd a b))) in
    rw same at (euclid_gcd a b)

pub frame_there : (p : Frames) (slot base : ℕ) → Between 1 p.settings.slots slot → base < p.repetition
    → InRange p.settings p.signal (frame_in slot p.repetition base)
frame_there p slot base b l =
    record { valid = p.valid; frame = record { slot = b; repetition = repetition_there p.repetition p.seven; base = l } }

module _ (p : Frames) (slot base : ℕ) (r : InRange p.settings p.signal (frame_in slot p.repetition base)) where
  pub bounded : FrameBounded p.settings p.signal (frame_in slot p.repetition base)
  bounded = frame_bounded p.settings p.signal (frame_in slot p.repetition base) r

  -- what the wait leaves by the divisor
  abbrev number : ℕ
  number = first_start p.settings (frame_in slot p.repetition base) + (p.signal.period - p.signal.offset)

  divisor : IsGcd p.signal.period (p.repetition * p.settings.cycle) p.divisor
  divisor = gcd_there p.signal.period (p.repetition * p.settings.cycle) p.divisor p.greatest

  positive : 0 < p.divisor
  positive = gcd_positive _ _ p.divisor divisor (omega (arith, bounded.first_below))

  pub wait_there : (0 < p.divisor) × (number % p.divisor < p.settings.packing + p.repetition * p.settings.cycle)
  wait_there =
      let most = divisor_at_most p.divisor _ divisor.right (omega (arith, bounded.first_below)) in
      (positive, omega (arith, mod-lt number positive, most))

  pub wait_age : (w : ℕ) → LongestGiven (p.settings.packing + p.repetition * p.settings.cycle) number p.divisor w
      → Age p.settings p.signal (frame_in slot p.repetition base) (w + p.settings.slot)
  wait_age =
      given_age _ _ p.settings.packing p.settings.slot _ _ _ _ bounded.first_below bounded.period_least divisor
      (remainder_of_multiple (first_start p.settings (frame_in slot p.repetition base)) p.signal.offset p.signal.period p.divisor positive divisor.left
      (omega (arith, p.valid.signal.offset)))

-- ---- uniqueness

-- frames of the same settings, signal and repetition are the same, for their divisor is unique
same_frames : (p q : Frames) → p.settings ≡ q.settings → p.signal ≡ q.signal → p.repetition ≡ q.repetition → p ≡ q
same_frames p q s x r =
    let span = ap (λ (t : Settings). p.repetition * t.cycle) s ∙ ap (λ (n : ℕ). n * q.settings.cycle) r in
    let mine = gcd_there _ _ p.divisor p.greatest in
    let other = gcd_there _ _ q.divisor q.greatest in
    let d = gcd_unique _ _ p.divisor q.divisor mine (rw (ap (λ (y : Signal). y.period) x, span) other) in
    λ i. record {
      settings = s i;
      signal = x i;
      repetition = r i;
      divisor = d i;
      valid = is_prop→PathP (λ j. Valid (s j) (x j)) (λ j. hlevel (le_prop)) p.valid q.valid i;
      seven = is_prop→PathP (λ j. ∥ Repetition (r j) ∥₁) (λ j. ∥∥₁_prop) p.seven q.seven i;
      greatest = is_prop→PathP (λ j. ∥ IsGcd (x j).period (r j * (s j).cycle) (d j) ∥₁) (λ j. ∥∥₁_prop) p.greatest q.greatest i;
    }

pub frames_of_unique : (s : Settings) (x : Signal) (R : ℕ) (a b : Option Frames)
    → IfSome a (λ p. (p.settings ≡ s) × (p.signal ≡ x) × (p.repetition ≡ R)) → (IsSome a ↔ Valid s x × Repetition R)
    → IfSome b (λ p. (p.settings ≡ s) × (p.signal ≡ x) × (p.repetition ≡ R)) → (IsSome b ↔ Valid s x × Repetition R) → a ≡ b
frames_of_unique s x R None None e i f j = refl
frames_of_unique s x R None (Some q) e i f j = absurd (false≢true (i.1 (j.0 refl)))
frames_of_unique s x R (Some p) None e i f j = absurd (false≢true (j.1 (i.0 refl)))
frames_of_unique s x R (Some p) (Some q) e i f j =
    ap Some (same_frames p q (e.0 ∙ sym f.0) (e.1 ∙ sym f.1) (e.2 ∙ sym f.2))
