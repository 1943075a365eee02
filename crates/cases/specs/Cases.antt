-- The starred cases of "Examples with numbers", gathered as one list with a single claim.
use Rattle.std.specs.Prelude.{◌≡◌, List, [], ◌∷◌, ℕ}
use Rattle.terms.specs.declared.Settings.{Settings}
use Rattle.terms.specs.declared.Signal.{Signal}
use Rattle.terms.specs.declared.Frame.{Frame}
use Rattle.terms.specs.Ranges.{Valid}
use Rattle.age.specs.Age.{Age}
use Rattle.age.specs.AgeGiven.{InRange}
use Rattle.rule.specs.Rule.{Keeps, segment, Largest, Repetitions}
use Rattle.terms.specs.Lists.{EachSignal}
use Rattle.filling.specs.Runs.{Placed}
use Rattle.filling.specs.Filled.{needed, filled}
use Rattle.filling.specs.Outcomes.{repetition_in}

-- "Unless said otherwise: cycle 2,500, slot 16, 93 slots, packing 0, payload 8."
abbrev pub settings : (slots packing : ℕ) → Settings
settings slots packing = record { cycle = 2500; slot = 16; slots = slots; packing = packing; payload = 8 }

-- "T/O/D" is period, offset, bound
abbrev pub signal : (period offset bound : ℕ) → Signal
signal period offset bound = record { unit = 1; period = period; offset = offset; size = 16; bound = bound }

abbrev pub frame : (slot repetition : ℕ) → Frame
frame slot repetition = record { slot = slot; repetition = repetition; base = 0 }

abbrev pub place : (signal slot repetition base : ℕ) → Placed
place signal slot repetition base =
    record { signal = signal; frame = record { slot = slot; repetition = repetition; base = base } }

pub data Case : Type 0 where
  -- the signal's repetition, 0 where it is refused with number 8
  gets : Settings → Signal → ℕ → Case
  -- the signal's age in a frame
  shows : Settings → Signal → Frame → ℕ → Case
  -- the repetitions of a list's signals, where each is placed, by rising repetition, and the slots used
  fills : Settings → List ℕ → (repetitions : List ℕ) → List Placed → ℕ → Case

pub record FilledAs (s : Settings) (list repetitions : List ℕ) (at : List Placed) (slots : ℕ) : Type 0 where
  pub valid : EachSignal list (Valid s)
  pub gets : Repetitions s list (repetition_in repetitions)
  pub places : filled list (repetition_in repetitions) ≡ at
  pub used : needed list (repetition_in repetitions) ≡ slots

abbrev pub CaseHolds : Case → Type 0
CaseHolds (gets s x r) = Valid s x × Largest (Keeps s x (segment s)) r
CaseHolds (shows s x f a) = InRange s x f × Age s x f a
CaseHolds (fills s list repetitions places slots) = FilledAs s list repetitions places slots

abbrev pub EachCase : List Case → Type 0
EachCase [] = Unit {0}
EachCase (c ∷ cs) = CaseHolds c × EachCase cs

abbrev pub starred : List Case
starred =
    -- 1
    gets (settings 93 0) (signal 2500 0 2500) 1
    ∷ shows (settings 93 0) (signal 2500 0 2500) (frame 93 1) 1488
    -- 2
    ∷ gets (settings 93 0) (signal 2500 16 2500) 1
    ∷ shows (settings 93 0) (signal 2500 16 2500) (frame 1 1) 2500
    -- 3
    ∷ gets (settings 93 0) (signal 2500 15 2500) 0
    ∷ shows (settings 93 0) (signal 2500 15 2500) (frame 1 1) 2501
    -- 4
    ∷ gets (settings 93 1) (signal 2500 0 2500) 0
    ∷ shows (settings 93 1) (signal 2500 0 2500) (frame 1 1) 2516
    -- 5 and 6
    ∷ gets (settings 93 100) (signal 10000 2000 9488) 4
    ∷ gets (settings 93 100) (signal 10000 2000 9487) 2
    -- 7: the bound 39,488 is kept everywhere, and reached in slot 93
    ∷ gets (settings 93 100) (signal 50000 2000 50000) 16
    ∷ gets (settings 93 100) (signal 50000 2000 39488) 16
    ∷ shows (settings 93 100) (signal 50000 2000 50000) (frame 93 16) 39488
    -- 8
    ∷ gets (settings 93 100) (signal 50000 2000 15000) 4
    -- 9: slot 30 is a bad place
    ∷ gets (settings 29 0) (signal 2500 472 2500) 1
    ∷ gets (settings 30 0) (signal 2500 472 2500) 0
    ∷ shows (settings 30 0) (signal 2500 472 2500) (frame 30 1) 2508
    -- 10: repetitions 4, 2, 4 in list order: bases 1, 0, 3, one full slot
    ∷ fills (settings 93 100)
    (1 ∷ 10000 ∷ 2000 ∷ 16 ∷ 10000 ∷ 1 ∷ 5000 ∷ 2000 ∷ 16 ∷ 5000 ∷ 1 ∷ 10000 ∷ 2000 ∷ 16 ∷ 10000 ∷ []) (4 ∷ 2 ∷ 4 ∷ [])
    (place 2 1 2 0 ∷ place 1 1 4 1 ∷ place 3 1 4 3 ∷ []) 1
    -- 12: an empty list
    ∷ fills (settings 93 0) [] [] [] 0
    ∷ []

unfoldable pub Claim : Type 0
Claim = EachCase starred
