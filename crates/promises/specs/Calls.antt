-- The calls as their caller sees them: what is asked, what is lent, what comes back; and for each routine the returns that its
-- contract allows.
use Rattle.std.specs.Prelude.{◌≡◌, List, ℕ, ◌/◌, ◌%◌, Result, Ok, Err}
use Rattle.terms.specs.declared.Settings.{Settings}
use Rattle.terms.specs.declared.Refusal.{Refusal}
use Rattle.terms.specs.Answers.{Answer, number_of, place_of}
use Rattle.terms.specs.Requests.{Request, PlanRoom}
use Rattle.terms.specs.Ranges.{settings_from}
use Rattle.planner.specs.Planned.{Planned}
use Rattle.book.specs.declared.Reading.{Reading}
use Rattle.book.specs.Reading.{five_zeros}
use Rattle.book.specs.Outcomes.{answer_of, ReadOutcome, WriteOutcome}
use Rattle.editor.specs.Answered.{ReadAnswered, SettingAnswered, WriteAnswered, PlanAnswered, BookAnswered}

-- what comes back: the answer's number and place, and what was lent, at exit
pub record Return (Room : Type 0) : Type 0 where
  pub number : ℕ
  pub place : ℕ
  pub lent : Room

-- a routine, as what it gives: which returns may come of what is asked and lent
abbrev pub Routine : (Asked Room : Type 0) → Type 1
Routine Asked Room = Asked → Room → Return Room → Type 0

-- so it is of whatever a routine gives; and where the number is 0
abbrev pub Always : {Asked Room : Type 0} → Routine Asked Room → Routine Asked Room → Type 0
Always {Asked} {Room} Gives So = (x : Asked) (l : Room) (y : Return Room) → Gives x l y → So x l y

abbrev pub WhereDone : {Asked Room : Type 0} → Routine Asked Room → Routine Asked Room → Type 0
WhereDone Gives So = Always Gives (λ x l y. y.number ≡ 0 → So x l y)

-- ---- what the contracts allow

-- the number and the place of an answer
abbrev pub Tells : {Room : Type 0} → Answer → Return Room → Type 0
Tells a y = (y.number ≡ number_of a) × (y.place ≡ place_of a)

-- "the answer's number times 4,294,967,296, plus its place", taken apart as a C program does
abbrev pub Halves : {Room : Type 0} → ℕ → Return Room → Type 0
Halves r y = (y.number ≡ r / 4294967296) × (y.place ≡ r % 4294967296)

-- `planner::plan`, and `noctelvia_plan_list`
abbrev pub Plans : Routine Request PlanRoom
Plans x l y = (a : Answer) × Planned x l a y.lent × Tells a y

abbrev pub PlansList : Routine Request PlanRoom
PlansList x l y = (r : ℕ) × PlanAnswered x l r y.lent × Halves r y

-- `noctelvia_plan`: of a book, into lent bytes
abbrev pub PlansBook : Routine (List ℕ) (List ℕ)
PlansBook book l y = (r : ℕ) × BookAnswered book l r y.lent × Halves r y

-- the settings of a reading; a refusal has none, so they stand as five zeros
abbrev pub settings_in_reading : Result Reading Refusal → Settings
settings_in_reading (Ok r) = r.settings
settings_in_reading (Err e) = five_zeros

-- `book::read`, which gives settings too; and `noctelvia_read`, beside which `noctelvia_setting` gives them word by word
abbrev pub Reads : Settings → Routine (List ℕ) (List ℕ)
Reads s book l y =
    (r : Result Reading Refusal) × ReadOutcome book l r y.lent × (s ≡ settings_in_reading r) × Tells (answer_of r) y

abbrev pub ReadsFromC : Settings → Routine (List ℕ) (List ℕ)
ReadsFromC s book l y =
    (r : ℕ)
    × ReadAnswered book l r y.lent
    × ((word : ℕ → ℕ) × ((w : ℕ) → SettingAnswered book w (word w)) × (s ≡ settings_from word))
    × Halves r y

-- `book::write`, and `noctelvia_write`
abbrev pub Writes : Routine Request (List ℕ)
Writes x l y = (a : Answer) × WriteOutcome x.settings x.list l a y.lent × Tells a y

abbrev pub WritesFromC : Routine Request (List ℕ)
WritesFromC x l y = (r : ℕ) × WriteAnswered x.settings x.list l r y.lent × Halves r y
