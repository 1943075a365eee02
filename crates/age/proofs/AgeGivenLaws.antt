-- Laws of what the routines of this room give: outcomes that satisfy a contract are equal, an age that is given in
-- range is not 0, and a wait given of a frame's numbers makes its age, which is made of no other.
use mathlib.Core.Path.{◌≡◌}
use Prim.Native.Nat.{ℕ, ◌+◌, ◌-◌, ◌%◌, ◌≤◌, ◌<◌}
use native.Mathlib.Nat.{mod-lt}
use native.Mathlib.Omega.{arith}
use Rattle.std.specs.Prelude.{Option, unwrap_or, IsSome, ◌↔◌}
use Rattle.laws.proofs.GivenLaws.{given_inside, given_unique}
use Rattle.laws.proofs.OptionLaws.{same_where}
use Rattle.terms.specs.declared.Settings.{Settings}
use Rattle.terms.specs.declared.Signal.{Signal}
use Rattle.terms.specs.declared.Frame.{Frame}
use Rattle.laws.specs.Divisor.{IsGcd}
use Rattle.laws.proofs.DivisorLaws.{gcd_positive, divisor_at_most}
use Rattle.age.specs.Age.{IsAge, first_start, span_of}
use Rattle.age.specs.Formula.{Remainder}
use Rattle.age.proofs.FormulaLaws.{longest_unique, longest_from_top, remainder_ahead}
use Rattle.age.proofs.AgeLaws.{age_unique, formula_is_age}
use Rattle.age.proofs.SpanLaws.{age_at_least_slot}
use Rattle.age.specs.AgeGiven.{InRange, AgeGiven, LongestGiven}

pub age_given_unique : (s : Settings) (x : Signal) (f : Frame) (a b : ℕ) → AgeGiven s x f a → AgeGiven s x f b → a ≡ b
age_given_unique s x f =
    given_unique _ _ (age_unique (first_start s f) (span_of s f) s.packing s.slot x.offset x.period)

-- of what may be none
pub age_option_unique : (s : Settings) (x : Signal) (f : Frame) (a b : Option ℕ)
    → AgeGiven s x f (unwrap_or a 0) → IsSome a ↔ InRange s x f → AgeGiven s x f (unwrap_or b 0) → IsSome b ↔ InRange s x f
    → a ≡ b
age_option_unique s x f a b p i q j = same_where a b i j (age_given_unique s x f (unwrap_or a 0) (unwrap_or b 0) p q)

-- 0 exactly where something is out of range
pub age_given_zero : (s : Settings) (x : Signal) (f : Frame) (a : ℕ) → AgeGiven s x f a → a ≡ 0 → InRange s x f → ⊥
age_given_zero s x f a p z r =
    omega (arith, age_at_least_slot _ _ _ _ _ _ a (p.inside r), r.valid.settings)

module _ (limit n g : ℕ) where
  pub longest_given_unique : (v w : ℕ) → LongestGiven limit n g v → LongestGiven limit n g w → v ≡ w
  longest_given_unique = given_unique _ _ (longest_unique limit g (n % g))

  pub longest_wait_unique : (a b : Option ℕ)
      → LongestGiven limit n g (unwrap_or a 0) → IsSome a ↔ (0 < g) × (n % g < limit)
      → LongestGiven limit n g (unwrap_or b 0) → IsSome b ↔ (0 < g) × (n % g < limit) → a ≡ b
  longest_wait_unique a b p i q j = same_where a b i j (longest_given_unique (unwrap_or a 0) (unwrap_or b 0) p q)

  pub longest_given_most : (w : ℕ) → LongestGiven limit n g w → w ≤ limit
  longest_given_most w p =
      let never : limit < w → ⊥ = λ h. omega (arith, p.outside (λ v. omega (arith, (p.inside v).below))) in
      omega arith

  -- from the top down
  pub longest_given : 0 < g → n % g < limit → LongestGiven limit n g (limit - 1 - (limit - 1 - n % g) % g)
  longest_given h b = given_inside _ _ _ (h, b) (longest_from_top limit g (n % g) (mod-lt n h) b)

-- the wait that `longest_wait` gives, of a number that leaves what first start minus offset leaves, makes the age
module _ (first span packing slot offset period g n : ℕ) (f : first < span) (t : 0 < period)
    (c : IsGcd period span g) (m : Remainder first offset g (n % g)) where
  leaves_below : n % g < packing + span
  leaves_below = omega (arith, m.below, divisor_at_most g span c.right (omega arith))

  pub given_age : (w : ℕ) → LongestGiven (packing + span) n g w → IsAge first span packing slot offset period (w + slot)
  given_age w p =
      formula_is_age first span packing slot offset period g (n % g) w f t c m (p.inside (omega (arith, m.below), leaves_below))

-- such a number is the first start and what the offset lacks of a multiple of g; and an age is made so
module _ (first span packing slot offset period g : ℕ) (f : first < span) (t : 0 < period)
    (c : IsGcd period span g) where
  positive : 0 < g
  positive = gcd_positive period span g c (omega arith)

  abbrev ahead : ℕ
  ahead = first + (g - offset % g)

  remains : Remainder first offset g (ahead % g)
  remains = remainder_ahead first offset g positive

  pub given_age_ahead : (w : ℕ) → LongestGiven (packing + span) ahead g w → IsAge first span packing slot offset period (w + slot)
  given_age_ahead = given_age first span packing slot offset period g ahead f t c remains

  pub age_given : (a : ℕ) → IsAge first span packing slot offset period a
      → (w : ℕ) × LongestGiven (packing + span) ahead g w × (a ≡ w + slot)
  age_given a p =
      let given = longest_given (packing + span) ahead g positive (leaves_below first span packing slot offset period g ahead f t c remains) in
      (_, given, age_unique first span packing slot offset period a _ p (given_age_ahead _ given))
