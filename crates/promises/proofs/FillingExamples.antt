-- The order of filling: the plan of case 10 keeps all its sentences, and for each of them there is a plan that breaks it.
-- Assumes nothing.
use mathlib.Core.Path.{◌≡◌, refl, subst}
use mathlib.Core.List.{List, [], ◌∷◌}
use mathlib.Core.Logic.{inl, inr, ⊎_elim, dite}
use Prim.Native.Nat.{ℕ, zero, suc, ◌+◌, ◌*◌, ◌<◌}
use native.Mathlib.Decide.{ℕ_discrete}
use native.Mathlib.Omega.{arith}
use lib.Dec.{lit≤}
use Rattle.laws.specs.Lowest.{Between, EachTo}
use Rattle.terms.specs.declared.Frame.{Frame}
use Rattle.terms.specs.Lists.{group_of}
use Rattle.cycles.specs.Frames.{Sends}
use Rattle.filling.specs.Drawn.{Before, InUse, FillingShown}
use Rattle.promises.specs.Shows.{frame_of}
use Rattle.promises.proofs.Inputs.{fresh, half, list_of, results_of, result, case1, words, slot_two}
use Rattle.promises.proofs.Named.{at_one}

-- the frames that results show; ages play no part
abbrev shows : List ℕ → ℕ → Frame
shows results = frame_of (words results)

-- one signal each of units 1 and 2; three signals of unit 1
abbrev two_units : List ℕ
two_units = list_of (fresh ∷ record { unit = 2; period = 2500; offset = 0; size = 16; bound = 2500 } ∷ [])

abbrev thrice : List ℕ
thrice = list_of (half ∷ half ∷ half ∷ [])

-- ---- case 10: "One unit, repetitions 4, 2, 4 in list order: bases 1, 0, 3, one full slot."

abbrev case10 : ℕ → Frame
case10 = shows (results_of (result 1 1 4 0 ∷ result 1 0 2 0 ∷ result 1 3 4 0 ∷ []))

-- equal repetitions go by place in the list
pub before_yes : Before (group_of thrice) case10 1 3
before_yes = (refl, inr (refl, lit≤ tt))

pub before_no : Before (group_of thrice) case10 1 2 → ⊥
before_no (u, inl l) = omega (arith, l)
before_no (u, inr (e, l)) = omega (arith, e)

at_three : (P : ℕ → Type 0) → P 1 → P 2 → P 3 → EachTo 3 P
at_three P p q r i b =
    dite (ℕ_discrete i 1) (λ e. rw e p) (λ n. dite (ℕ_discrete i 2) (λ e. rw e q) (λ m. subst P (omega arith) r))

-- the frame of repetition 2 in the even cycles, and the first of repetition 4 in cycle 1
even : (k : ℕ) → Sends (case10 2) 1 (0 + k * 2)
even k = (refl, record { repetition = (1, lit≤ tt, refl); base = lit≤ tt; again = (k, refl) })

one_first : Sends (case10 1) 1 1
one_first = (refl, record { repetition = (2, lit≤ tt, refl); base = lit≤ tt; again = (0, refl) })

pub in_use_yes : InUse 3 case10 1 62
in_use_yes = (2, (lit≤ tt, lit≤ tt), even 31)

pub in_use_no : InUse 3 case10 2 62 → ⊥
in_use_no (j, b, sends) = omega (arith, at_three (λ i. (case10 i).slot ≡ 1) refl refl refl j b, sends.0)

pub filling_yes : FillingShown 3 (group_of thrice) case10
filling_yes =
    record {
      units = λ i j a b l. absurd (omega (arith, l, unit i a, unit j b));
      lowest = λ i k a b. (1, (lit≤ tt, lit≤ tt), omega (arith, b, slot i a));
      onward = λ i j a b h. omega (arith, slot i a, slot j b);
      full = λ i j c a b h l. absurd (omega (arith, l, slot i a, slot j b));
      first_free = λ i c a. at_three (λ i. c < (case10 i).base → Taken i c) (first c) (λ l. absurd (omega (arith, l))) (third c) i a;
    }
  where
    unit : EachTo 3 (λ i. group_of thrice i ≡ 1)
    unit = at_three _ refl refl refl

    slot : EachTo 3 (λ i. (case10 i).slot ≡ 1)
    slot = at_three _ refl refl refl

    Taken : ℕ → ℕ → Type 0
    Taken i c = (j : ℕ) × Between 1 3 j × Before (group_of thrice) case10 j i × Sends (case10 j) (case10 i).slot c

    first : (c : ℕ) → c < 1 → Taken 1 c
    first c l = subst (Taken 1) (omega (arith, l)) (2, (lit≤ tt, lit≤ tt), (refl, inl (lit≤ tt)), even 0)

    third : (c : ℕ) → c < 3 → Taken 3 c
    third zero l = (2, (lit≤ tt, lit≤ tt), (refl, inl (lit≤ tt)), even 0)
    third (suc zero) l = (1, (lit≤ tt, lit≤ tt), before_yes, one_first)
    third (suc (suc zero)) l = (2, (lit≤ tt, lit≤ tt), (refl, inl (lit≤ tt)), even 1)
    third (suc (suc (suc c))) l = absurd (omega (arith, l))

-- ---- one wrong plan for each sentence

-- unit 2 before unit 1
pub units_no : FillingShown 2 (group_of two_units) (shows (results_of (result 2 0 1 0 ∷ result 1 0 1 0 ∷ []))) → ⊥
units_no h = omega (arith, h.units 1 2 (lit≤ tt, lit≤ tt) (lit≤ tt, lit≤ tt) (lit≤ tt))

-- one slot, but not the lowest
pub lowest_slot_no : FillingShown 1 (group_of case1) (shows slot_two) → ⊥
lowest_slot_no h =
    let first = h.lowest 1 1 (lit≤ tt, lit≤ tt) (lit≤ tt, lit≤ tt) in
    omega (arith, at_one (λ i. (shows slot_two i).slot ≡ 2) refl first.0 first.1, first.2)

-- in list order, repetitions 4, 4, 2: the frame of repetition 2 comes too late for the first slot
pub onward_no : FillingShown 3 (group_of thrice) (shows (results_of (result 1 0 4 0 ∷ result 1 1 4 0 ∷ result 2 0 2 0 ∷ []))) → ⊥
onward_no h = omega (arith, h.onward 3 1 (lit≤ tt, lit≤ tt) (lit≤ tt, lit≤ tt) (refl, inl (lit≤ tt)))

-- three of repetition 2: one in slot 1 and two in slot 2, as few slots as any, but slot 1 was left half empty
abbrev half_left : List ℕ
half_left = results_of (result 1 0 2 0 ∷ result 2 0 2 0 ∷ result 2 1 2 0 ∷ [])

pub full_no : FillingShown 3 (group_of thrice) (shows half_left) → ⊥
full_no h =
    let (j, b, sends) =
    h.full 1 2 1 (lit≤ tt, lit≤ tt) (lit≤ tt, lit≤ tt) (refl, inr (refl, lit≤ tt)) (lit≤ tt) (lit≤ tt) in
    at_three (λ i. Sends (shows half_left i) 1 1 → ⊥) (λ t. omega (arith, t.1.again.1)) (λ t. omega (arith, t.0))
    (λ t. omega (arith, t.0)) j b sends

-- the second cycle, where the first is free
abbrev late : ℕ → Frame
late = shows (results_of (result 1 1 2 0 ∷ []))

pub first_free_no : FillingShown 1 (group_of case1) late → ⊥
first_free_no h =
    let (j, b, before, sends) = h.first_free 1 0 (lit≤ tt, lit≤ tt) (lit≤ tt) in
    ⊎_elim (λ l. omega (arith, l, at_one (λ i. (late i).repetition ≡ 2) refl j b)) (λ e. omega (arith, e.1, b))
    before.1
