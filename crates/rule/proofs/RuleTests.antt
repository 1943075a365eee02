-- The rule as tests that antt computes: the longest wait at each slot and base, by the formula.
-- Assumes nothing.
use mathlib.Core.Path.{◌≡◌, refl, ap}
use Rattle.laws.specs.Divisor.{IsGcd}
use mathlib.Core.Bool.{Bool, not}
use mathlib.Core.List.{Memᴰ}
use Rattle.laws.specs.Lowest.{Between}
use Prim.Native.Nat.{ℕ, zero, suc, ◌+◌, ◌*◌, ◌-◌, ◌%◌, ◌≤◌, ◌<◌}
use native.Mathlib.Nat.{mod-lt, add-sub_cancel}
use native.Mathlib.Omega.{arith}
use lib.Dec.{leb, lit≤}
use Rattle.laws.specs.Says.{Says}
use Rattle.laws.proofs.SaysLaws.{says_same}
use Rattle.laws.proofs.Tests.{below, below_within}
use Rattle.laws.proofs.FactTests.{Test, join, shown, said_true, said_false}
use Rattle.laws.proofs.DivisorLaws.{euclid, euclid_gcd, gcd_positive, divisor_at_most}
use Rattle.laws.proofs.NumbersLaws.{within}
use Rattle.terms.specs.declared.Settings.{Settings}
use Rattle.terms.specs.declared.Signal.{Signal}
use Rattle.terms.specs.Ranges.{Valid, Repetition}
use Rattle.terms.proofs.RepetitionLaws.{below_half}
use Rattle.age.proofs.AgeGivenLaws.{longest_given, given_age}
use Rattle.age.proofs.FormulaLaws.{remainder_ahead}
use Rattle.age.proofs.RangedFrames.{first_below}
use Rattle.age.specs.Age.{first_start}
use Rattle.age.specs.AgeGiven.{frame_in}
use Rattle.rule.specs.Rule.{Keeps, segment, Largest}
use Rattle.rule.proofs.RuleLaws.{age_says, each_keeps, keeps_each, smaller_keeps}
use Rattle.rule.specs.Places.{KeptIn}
use Rattle.age.proofs.RangeTests.{repetition_test}

-- the longest wait below the limit that leaves what n leaves by g
abbrev wait : (limit g n : ℕ) → ℕ
wait limit g n = limit - 1 - (limit - 1 - n % g) % g

unfoldable pub keeps_at : (limit g slot bound slots cycle bases n : ℕ) → Bool
keeps_at limit g slot bound slots cycle bases n =
    below (λ b. below (λ k. leb (wait limit g (n + b * cycle + k * slot) + slot) bound) slots) bases

unfoldable pub span_divisor : Settings → Signal → ℕ → ℕ
span_divisor s x R = euclid (R * s.cycle) x.period (R * s.cycle)

unfoldable pub keeps_flag : Settings → Signal → ℕ → Bool
keeps_flag s x R =
    keeps_at (s.packing + R * s.cycle) (span_divisor s x R) s.slot x.bound s.slots s.cycle R (span_divisor s x R - x.offset % span_divisor s x R)

-- one age by the formula decides the place
place_says : (s : Settings) (x : Signal) (R : ℕ) → Valid s x → (g b k : ℕ) → IsGcd x.period (R * s.cycle) g → b < R → k < s.slots
    → Says (KeptIn s x (frame_in (k + 1) R b)) (leb (wait (s.packing + R * s.cycle) g (g - x.offset % g + b * s.cycle + k * s.slot) + s.slot) x.bound)
place_says s x R v g b k c h l =
    let f = first_below s (frame_in (k + 1) R b) v.settings (omega arith) h in
    let first = first_start s (frame_in (k + 1) R b) in
    let n = g - x.offset % g + b * s.cycle + k * s.slot in
    let span : 0 < R * s.cycle = omega arith in
    let positive = gcd_positive x.period (R * s.cycle) g c span in
    let same : first + (g - x.offset % g) ≡ n = omega (arith, ap (λ (i : ℕ). i * s.slot) (add-sub_cancel k 1)) in
    let remains = rw same at (remainder_ahead first x.offset g positive) in
    let given = longest_given (s.packing + R * s.cycle) n g positive (omega (arith, mod-lt n positive, divisor_at_most g _ c.right span)) in
    age_says s x (frame_in (k + 1) R b) _ _ (given_age first _ s.packing s.slot x.offset x.period g n f v.signal.period.0 c remains _ given) refl

pub keeps_says : (s : Settings) (x : Signal) (R : ℕ) → Valid s x → Repetition R → Says (Keeps s x (segment s) R) (keeps_flag s x R)
unfolding keeps_flag keeps_at span_divisor
keeps_says s x R v r =
    let c = euclid_gcd x.period (R * s.cycle) in
    says_same (keeps_flag s x R) (each_keeps s x R) (keeps_each s x R)
    (below_within _ _ R (λ b h. below_within _ _ s.slots (λ k l. place_says s x R v _ b k c h l)))

abbrev keeps_test : (s : Settings) (x : Signal) (R : ℕ) → Test (Valid s x → Repetition R → Keeps s x (segment s) R)
keeps_test s x R = (keeps_flag s x R, λ t v r. said_true (keeps_flag s x R) (keeps_says s x R v r) t)

abbrev fails_test : (s : Settings) (x : Signal) (R : ℕ) → Test (Valid s x → Repetition R → Keeps s x (segment s) R → ⊥)
fails_test s x R = (not (keeps_flag s x R), λ t v r. said_false (keeps_flag s x R) (keeps_says s x R v r) t)

-- where R keeps and its double does not, none above R keeps
largest_by : (s : Settings) (x : Signal) (Q R : ℕ) → Valid s x → Repetition Q → (Keeps s x (segment s) Q → ⊥)
    → ((P : ℕ) → Repetition P → R < P → Q ≤ P) → (P : ℕ) → Repetition P → Keeps s x (segment s) P → P ≤ R
largest_by s x Q R v q fails next P p keeps =
    let inside : (k : ℕ) → Memᴰ k (segment s) → Between 1 s.slots k =
    λ k m. omega (arith, within 1 s.slots k m) in
    let never : R < P → ⊥ = λ h. fails (smaller_keeps s x v (segment s) inside Q P q p (next P p h) keeps) in
    omega arith

pub none : (s : Settings) (x : Signal) → (Valid s x → Repetition 1 → Keeps s x (segment s) 1 → ⊥) → Valid s x → Largest (Keeps s x (segment s)) 0
none s x fails v =
    let one : Repetition 1 = (0, lit≤ tt, refl) in
    record { has = λ n. absurd (n refl); largest = largest_by s x 1 0 v one (fails v one) (λ P p h. h) }

pub some :
    (s : Settings) (x : Signal) (r : ℕ) →
    (Repetition r × Repetition (r * 2))
    × ((Valid s x → Repetition r → Keeps s x (segment s) r) × (Valid s x → Repetition (r * 2) → Keeps s x (segment s) (r * 2) → ⊥)) →
    Valid s x →
    Largest (Keeps s x (segment s)) r
some s x r ((one, double), (keeps, fails)) v =
    let above = largest_by s x (r * 2) r v double (fails v double) (λ P p l. omega (arith, below_half r P one p l)) in
    record { has = λ n. (one, keeps v one); largest = above }

-- a signal's repetition, below 64
abbrev pub gets_test : (s : Settings) (x : Signal) (r : ℕ) → Test (Valid s x → Largest (Keeps s x (segment s)) r)
gets_test s x zero = shown (none s x) (fails_test s x 1)
gets_test s x (suc n) =
    shown (some s x (suc n))
    (join (join (repetition_test (suc n)) (repetition_test (suc n * 2))) (join (keeps_test s x (suc n)) (fails_test s x (suc n * 2))))
