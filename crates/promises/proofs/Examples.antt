-- The smaller definitions that the demands rest on, each with one thing that satisfies it and one that does not, most of them from
-- "Examples with numbers". `NotVacuous` has what speaks of plans, and `BookExamples` what speaks of rows and books.
-- Assumes nothing.
use mathlib.Core.Path.{◌≡◌, refl, ap}
use mathlib.Core.List.{List, [], ◌∷◌, ◌++◌}
use mathlib.Core.Logic.{inl, inr}
use Prim.Native.Nat.{ℕ, zero, suc, ◌^◌, ◌<◌, ◌≤◌}
use lib.ListN.{get_or}
use native.Mathlib.Omega.{arith}
use lib.Dec.{lit≤}
use Rattle.laws.specs.Lowest.{EachTo, LowestWithout}
use Rattle.laws.proofs.RowLaws.{holds_zero}
use Rattle.laws.proofs.DivisorLaws.{euclid}
use Rattle.terms.specs.declared.Settings.{Settings}
use Rattle.terms.specs.declared.Frame.{Frame}
use Rattle.terms.specs.Ranges.{setting_rows, SettingsInRange, LowestOutOfRange, SignalInRange, Repetition, FrameInRange}
use Rattle.terms.specs.Lists.{CountInRange, count, signal_at, EachSignal}
use Rattle.terms.proofs.RepetitionLaws.{repetition_positive, repetition_multiple}
use Rattle.age.specs.Age.{Age, Start, Release, Carries, ValueAge}
use Rattle.age.proofs.AgeTests.{age_test}
use Rattle.rule.specs.Rule.{Kept}
use Rattle.cycles.specs.Frames.{Names, Sends}
use Rattle.cycles.proofs.FrameLaws.{named_remainder}
use Rattle.book.specs.Words.{AllBelow}
use Rattle.book.specs.Blocks.{AreWords}
use Rattle.promises.specs.Demand2.{Releases, StartsAt, Behind}
use Rattle.promises.specs.Changes.{RaisedSignal, Eased}
use Rattle.promises.proofs.Inputs.{settings, fresh, stale, list_of, case1, case3, twice}
use Rattle.promises.proofs.Named.{fresh_valid, fresh_keeps, stale_gets, one, at_one, slot1, case1_count, are_words, below_test}
use Rattle.promises.proofs.Clock.{releases, starts_named}
use Rattle.promises.proofs.OnePlan.{one_age}

-- ---- ranges

pub settings_yes : SettingsInRange settings
settings_yes = fresh_valid.settings

-- one slot is too few
abbrev one_slot : Settings
one_slot = record { cycle = 2500; slot = 16; slots = 1; packing = 0; payload = 8 }

pub settings_no : SettingsInRange one_slot → ⊥
settings_no h = omega (arith, h.1.1.0.0)

pub signal_yes : SignalInRange settings fresh
signal_yes = fresh_valid.signal

-- the offset is below the period
pub signal_no : SignalInRange settings (record { unit = 1; period = 2500; offset = 2500; size = 16; bound = 2500 }) → ⊥
signal_no h = omega (arith, h.offset)

pub count_yes : CountInRange case1
count_yes = case1_count

pub count_no : CountInRange (1 ∷ 2500 ∷ 0 ∷ 16 ∷ []) → ⊥
count_no h = omega (arith, h.whole)

-- the number of slots is word 4
pub lowest_yes : LowestOutOfRange one_slot 4
lowest_yes = (6, inr ((lit≤ tt, lit≤ tt), inr ((lit≤ tt, lit≤ tt), inl ((λ h. omega (arith, h.0.0)), refl, refl))))

pub lowest_no : LowestOutOfRange settings 4 → ⊥
lowest_no (n, f) = omega (arith, (holds_zero (λ p. p ≡ 0) n 4 (setting_rows settings) settings_yes f).1)

abbrev frame_of4 : (slot base : ℕ) → Frame
frame_of4 slot base = record { slot = slot; repetition = 4; base = base }

pub frame_yes : FrameInRange 93 (frame_of4 93 3)
frame_yes = record { slot = (lit≤ tt, lit≤ tt); repetition = (2, lit≤ tt, refl); base = lit≤ tt }

-- the base is below the repetition
pub frame_no : FrameInRange 93 (frame_of4 93 4) → ⊥
frame_no h = omega (arith, h.base)

pub each_to_yes : EachTo 3 (λ i. i < 4)
each_to_yes i b = omega (arith, b)

pub each_to_no : EachTo 3 (λ i. i < 3) → ⊥
each_to_no h = omega (arith, h 3 (lit≤ tt, lit≤ tt))

pub each_yes : EachSignal case1 (SignalInRange settings)
each_yes = at_one _ fresh_valid.signal

pub each_no : EachSignal case1 (λ x. x.unit ≡ 2) → ⊥
each_no h = omega (arith, h 1 (lit≤ tt, lit≤ tt))

-- ---- releases, carrying frames, ages

pub release_yes : Release 15 2500 5015
release_yes = (2, refl)

pub release_no : Release 15 2500 5016 → ⊥
release_no r = omega (arith, r.1)

-- a frame start equal to the release plus packing time carries the value; the next one does not
pub carries_yes : Carries 0 2500 100 2400 2500
carries_yes = record { start = (1, refl); packed = lit≤ tt; earliest = λ u s l. l }

pub carries_no : Carries 0 2500 100 2400 5000 → ⊥
carries_no h = omega (arith, h.earliest 2500 (1, refl) (lit≤ tt))

pub start_yes : Start 32 2500 5032
start_yes = (2, refl)

pub start_no : Start 32 2500 5000 → ⊥
start_no s = omega (arith, s.1)

pub releases_yes : Releases 15 2500
releases_yes = releases 15 2500 (lit≤ tt)

-- a period of 0 gives no release after the offset
pub releases_no : Releases 15 0 → ⊥
releases_no h = let late = h.for_ever 16 in omega (arith, late.1.1, late.2)

-- released at 2,400 with packing time 100, out at 2,500, and 116 old at the end of its slot
pub value_age_yes : ValueAge 0 2500 100 16 2400 116
value_age_yes = record { sent = 2500; carries = carries_yes; age = refl }

-- the last slot length left out
pub value_age_no : ValueAge 0 2500 100 16 2400 100 → ⊥
value_age_no h = omega (arith, h.age, h.carries.earliest 2500 (1, refl) (lit≤ tt), h.carries.packed)

-- case 3: the age in slot 1 is 2,501, and no other number is
pub age_yes : Age settings stale slot1 2501
unfolding euclid
age_yes = ((age_test settings stale slot1 2501).1 tt).1

pub age_no : Age settings stale slot1 2485 → ⊥
age_no h = omega (arith, one_age settings stale slot1 h age_yes)

-- ---- repetitions, cycles and the rule

pub repetition_yes : Repetition 64
repetition_yes = (6, lit≤ tt, refl)

pub repetition_no : Repetition 3 → ⊥
repetition_no r = let whole = repetition_multiple 3 64 r repetition_yes (lit≤ tt) in omega (arith, whole.1)

pub names_yes : Names 4 1 61
names_yes = record { repetition = (2, lit≤ tt, refl); base = lit≤ tt; again = (15, refl) }

pub names_no : Names 4 1 62 → ⊥
names_no n = omega (arith, named_remainder n)

pub kept_yes : Kept settings fresh
kept_yes = (1, one, fresh_keeps)

pub kept_no : Kept settings stale → ⊥
kept_no k = omega (arith, stale_gets.largest k.0 k.1 k.2, repetition_positive k.0 k.1)

-- signal 1 of case 3 is the lowest whose bound no repetition keeps; case 1 has none
pub lowest_signal_yes : LowestWithout (count case3) (λ j. Kept settings (signal_at case3 j)) 1
lowest_signal_yes = record { within = (lit≤ tt, lit≤ tt); fails = kept_no; before = λ j l h. absurd (omega (arith, l, h)) }

pub lowest_signal_no : (i : ℕ) → LowestWithout (count case1) (λ j. Kept settings (signal_at case1 j)) i → ⊥
lowest_signal_no i h = h.fails (at_one (λ j. Kept settings (signal_at case1 j)) kept_yes i h.within)

-- ---- what plans and books are said by

abbrev slot7 : Frame
slot7 = record { slot = 7; repetition = 4; base = 1 }

pub sends_yes : Sends slot7 7 61
sends_yes = (refl, names_yes)

pub sends_no : Sends slot7 8 61 → ⊥
sends_no s = omega (arith, s.0)

pub below_yes : AllBelow 256 (255 ∷ [])
below_yes = (below_test 256 (255 ∷ []) (lit≤ tt)).1 tt

pub below_no : AllBelow 256 (256 ∷ []) → ⊥
below_no h = omega (arith, h 0)

pub words_yes : AreWords settings
words_yes = are_words

pub words_no : AreWords (record { cycle = 2 ^ 32; slot = 16; slots = 93; packing = 0; payload = 8 }) → ⊥
words_no h = omega (arith, h.cycle)

-- a frame of repetition 4 and base 1 in slot 7 starts in cycle 61 and, the 64 cycles coming again, in cycle 65
pub starts_yes : StartsAt settings (Sends slot7) 162596
starts_yes = (65, 7, (refl, record { repetition = (2, lit≤ tt, refl); base = lit≤ tt; again = (0, refl) }), refl)

pub starts_no : StartsAt settings (Sends slot7) 162597 → ⊥
starts_no at =
    let in_range : FrameInRange 93 slot7 =
    record { slot = omega arith; repetition = names_yes.repetition; base = lit≤ tt } in
    omega (arith, ((starts_named settings slot7 in_range 162597).1 at).1)

pub behind_yes : Behind 1 (5 ∷ 6 ∷ []) (7 ∷ 6 ∷ [])
behind_yes = (
  refl,
  λ j. elim j as (λ k. 1 ≤ k → get_or {A = ℕ} (7 ∷ 6 ∷ []) k 0 ≡ get_or {A = ℕ} (5 ∷ 6 ∷ []) k 0) [
    | zero ↦ λ h. absurd (omega (arith, h))
    | suc j ↦ λ h. refl
  ],
)

pub behind_no : Behind 1 (5 ∷ 6 ∷ []) (5 ∷ 7 ∷ []) → ⊥
behind_no h = omega (arith, h.1 1 (lit≤ tt))

-- ---- eased

-- case 1 with a bound of 2,000; and the signal of case 3 before it
abbrev lower : List ℕ
lower = list_of (record { unit = 1; period = 2500; offset = 0; size = 16; bound = 2000 } ∷ [])

abbrev eased_from : List ℕ
eased_from = case3 ++ lower

pub raised_yes : RaisedSignal (signal_at lower 1) fresh
raised_yes = record { unit = refl; period = refl; offset = refl; size = refl; raised = lit≤ tt; most = lit≤ tt }

pub raised_no : RaisedSignal fresh (signal_at lower 1) → ⊥
raised_no h = omega (arith, h.raised)

-- a bound raised past the period
pub raised_no_past : RaisedSignal fresh (record { unit = 1; period = 2500; offset = 0; size = 16; bound = 2501 }) → ⊥
raised_no_past h = omega (arith, h.most)

-- the first signal struck, and the second's bound raised
pub eased_yes : Eased eased_from case1
eased_yes =
    record { whole = refl; was = suc; rising = omega arith; within = omega arith; raised = at_one _ raised_yes }

-- a bound lowered
pub eased_no_lower : Eased case1 lower → ⊥
eased_no_lower h =
    let first : h.was 1 ≡ 1 = omega (arith, h.within 1 (lit≤ tt, lit≤ tt)) in
    omega (arith, (h.raised 1 (lit≤ tt, lit≤ tt)).raised, ap (λ (i : ℕ). (signal_at case1 i).bound) first)

-- a signal added
pub eased_no_more : Eased case1 twice → ⊥
eased_no_more h =
    let first = h.within 1 (lit≤ tt, lit≤ tt) in
    omega (arith, h.rising 1 2 (lit≤ tt) (lit≤ tt) (lit≤ tt), h.within 2 (lit≤ tt, lit≤ tt))
