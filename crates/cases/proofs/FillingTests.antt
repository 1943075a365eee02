-- The filling of a list as tests that antt computes: each signal's repetition, the places and the slots.
-- Assumes nothing.
use mathlib.Core.Path.{◌≡◌, refl, sym, subst}
use mathlib.Core.Bool.{false}
use mathlib.Core.List.{List, [], ◌∷◌}
use mathlib.Core.Logic.{⊎_elim}
use Prim.Native.Nat.{ℕ, zero, suc}
use native.Mathlib.Nat.{eq-or-lt_of_le}
use native.Mathlib.Omega.{arith}
use Rattle.laws.proofs.FactTests.{Test, passing, equal, join, shown}
use Rattle.terms.specs.declared.Settings.{Settings}
use Rattle.terms.specs.declared.Signal.{Signal}
use Rattle.laws.specs.Lowest.{Between}
use Rattle.terms.specs.Ranges.{Valid}
use Rattle.rule.specs.Rule.{Keeps, segment, Largest}
use Rattle.terms.specs.Lists.{count, signal_at}
use Rattle.filling.specs.Runs.{Placed}
use Rattle.filling.specs.Filled.{needed, filled}
use Rattle.filling.specs.Outcomes.{repetition_in}
use Rattle.cases.specs.Cases.{FilledAs}
use Rattle.age.proofs.RangeTests.{valid_test}
use Rattle.rule.proofs.RuleTests.{gets_test}

-- two placed frames are the same where their four numbers are
abbrev same_place : (p q : Placed) → Test (p ≡ q)
same_place p q =
    shown
    (λ h. λ i. record { signal = h.0 i; frame = record { slot = h.1.0 i; repetition = h.1.1.0 i; base = h.1.1.1 i } })
    (join (equal p.signal q.signal)
    (join (equal p.frame.slot q.frame.slot)
    (join (equal p.frame.repetition q.frame.repetition) (equal p.frame.base q.frame.base))))

abbrev pub same_places : (ps qs : List Placed) → Test (ps ≡ qs)
same_places [] [] = passing refl
same_places [] (q ∷ qs) = (false, λ t. absurd t)
same_places (p ∷ ps) [] = (false, λ t. absurd t)
same_places (p ∷ ps) (q ∷ qs) = shown (λ h. λ i. h.0 i ∷ h.1 i) (join (same_place p q) (same_places ps qs))

pub none_to : (i : ℕ) → Between 1 0 i → ⊥
none_to i b = omega (arith, b.0, b.1)

pub one_more : (P : ℕ → Type 0) (n : ℕ) → P (suc n) → ((i : ℕ) → Between 1 n i → P i) → (i : ℕ) → Between 1 (suc n) i → P i
one_more P n p h i b = ⊎_elim (λ e. subst P (sym e) p) (λ l. h i (omega arith)) (eq-or-lt_of_le b.1)

-- a test passes at each of the numbers 1 to n
abbrev up_to : (P : ℕ → Type 0) → ((i : ℕ) → Test (P i)) → (n : ℕ) → Test ((i : ℕ) → Between 1 n i → P i)
up_to P t zero = passing (λ i b. absurd (none_to i b))
up_to P t (suc n) = shown (λ h. one_more P n h.0 h.1) (join (t (suc n)) (up_to P t n))

-- a signal is valid, and its repetition is the one that it gets
abbrev repetition_test : (s : Settings) (x : Signal) (r : ℕ) → Test (Valid s x × Largest (Keeps s x (segment s)) r)
repetition_test s x r = shown (λ h. (h.0, h.1 h.0)) (join (valid_test s x) (gets_test s x r))

abbrev pub fills_test : (s : Settings) (list repetitions : List ℕ) (places : List Placed) (slots : ℕ) → Test (FilledAs s list repetitions places slots)
fills_test s list repetitions places slots =
    shown (λ h. record { valid = λ i b. (h.0 i b).0; gets = λ i b. (h.0 i b).1; places = h.1.0; used = h.1.1 })
    (join
    (up_to (λ i. Valid s (signal_at list i) × Largest (Keeps s (signal_at list i) (segment s)) (repetition_in repetitions i))
    (λ i. repetition_test s (signal_at list i) (repetition_in repetitions i)) (count list))
    (join (same_places (filled list (repetition_in repetitions)) places) (equal (needed list (repetition_in repetitions)) slots)))
