-- For each public routine: two outcomes that its contract allows for the same input are equal.
-- Assumes nothing.
use mathlib.Core.Path.{◌≡◌, ◌∙◌, sym, ap, refl}
use mathlib.Core.List.{List, ◌++◌}
use Prim.Native.Nat.{ℕ}
use lib.ListN.{get_or}
use Rattle.std.specs.Prelude.{◌≢◌, Option, Some, unwrap_or, Result, Ok, Err, IfOk, IfErr, OnErr}
use Rattle.laws.specs.Rows.{Row}
use Rattle.laws.proofs.OptionLaws.{same_not_zero}
use Rattle.laws.proofs.RowLaws.{Single, single_join, pass}
use Rattle.terms.specs.declared.Refusal.{Refusal}
use Rattle.terms.specs.declared.Signal.{Signal}
use Rattle.terms.specs.declared.SignalResult.{SignalResult}
use Rattle.terms.specs.Answers.{Answer, Answers, place_of}
use Rattle.terms.specs.Requests.{PlanRoom, plan_room}
use Rattle.terms.specs.Lists.{signal_at}
use Rattle.terms.specs.Results.{result_at}
use Rattle.terms.proofs.AnswersLaws.{answers_unique}
use Rattle.book.specs.Reading.{book_rows, settings_in, list_in}
use Rattle.book.proofs.SoundLaws.{book_single}
use Rattle.filling.specs.Shown.{cell_of}
use Rattle.planner.specs.Rows.{Needed, planning_rows}
use Rattle.planner.proofs.Unique.{needed_one, planning_single, planned_unique}
use Rattle.plans.specs.declared.Plan.{Plan}
use Rattle.plans.specs.OfBook.{asked_by, blank, PlanOfBook, RefusalOfBook}
use Rattle.plans.proofs.OfBookLaws.{blank_enough}

module _ (book : List ℕ) (lent : Plan) where
  abbrev rows : List Row
  rows = book_rows book ++ planning_rows (asked_by book) blank

  abbrev done : ℕ → Type 0
  done = Needed (settings_in book) (list_in book)

  -- what the contract says of a result and the plan at exit
  abbrev Given : Result Unit Refusal → Plan → Type 0
  Given r p = IfOk r (λ _. PlanOfBook book lent p) × IfErr r (RefusalOfBook book) × OnErr r (p ≡ lent)

  -- the answer that is told by a plan or a refusal
  abbrev told : Result Unit Refusal → Plan → Answer
  told (Ok u) p = Ok p.used
  told (Err e) p = Err e

  answered : (r : Result Unit Refusal) (p : Plan) → Given r p → Answers rows done (told r p)
  answered (Ok u) p given =
      pass (planning_rows (asked_by book) blank) done _ _ (book_rows book) given.0.sound
      (blank_enough (asked_by book) given.0.planned)
  answered (Err e) p given = given.1

  same_plan : {p q : Plan} → PlanOfBook book lent p → PlanOfBook book lent q → p ≡ q
  same_plan a b =
      let (used, room) = planned_unique (asked_by book) (plan_room lent.cells lent.results) a.planned b.planned in
      λ i. record {
        settings = (a.settings ∙ sym b.settings) i;
        signals = (a.signals ∙ sym b.signals) i;
        used = ap place_of used i;
        list = (a.list ∙ sym b.list) i;
        cells = ap (λ (l : PlanRoom). l.cells) room i;
        results = ap (λ (l : PlanRoom). l.results) room i;
      }

  pub of_book_unique : (r q : Result Unit Refusal) (p o : Plan) → Given r p → Given q o → (r ≡ q) × (p ≡ o)
  of_book_unique r q p o a b =
      let single : Single rows =
      single_join (book_rows book) (planning_rows (asked_by book) blank) (book_single book) (planning_single (asked_by book) blank) in
      by_cases r q a b
      (answers_unique rows done (needed_one (settings_in book) (list_in book)) single (told r p) (told q o) (answered r p a)
      (answered q o b))
    where
      by_cases : (r q : Result Unit Refusal) → Given r p → Given q o → told r p ≡ told q o → (r ≡ q) × (p ≡ o)
      by_cases (Ok u) (Ok v) a b same = (refl, same_plan a.0 b.0)
      by_cases (Ok u) (Err f) a b same = cc same
      by_cases (Err e) (Ok v) a b same = cc same
      by_cases (Err e) (Err f) a b same = (cc same, a.2 ∙ sym b.2)

pub signal_unique : (p : Plan) (i : ℕ) (x y : Signal) → x ≡ signal_at p.list i → y ≡ signal_at p.list i → x ≡ y
signal_unique p i x y d e = d ∙ sym e

pub result_unique : (p : Plan) (i : ℕ) (r q : SignalResult) → r ≡ result_at (λ d. get_or p.results d 0) i
    → q ≡ result_at (λ d. get_or p.results d 0) i → r ≡ q
result_unique p i r q d e = d ∙ sym e

pub cell_unique : (p : Plan) (slot cycle : ℕ) (a b : Option ℕ) → unwrap_or a 0 ≡ cell_of p.cells slot cycle → a ≢ Some 0
    → unwrap_or b 0 ≡ cell_of p.cells slot cycle → b ≢ Some 0 → a ≡ b
cell_unique p slot cycle a b d m e n = same_not_zero a b m n (d ∙ sym e)
