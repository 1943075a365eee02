-- What the whole plan of a book holds, and which refusal a book gets, for all books: "reading, then planning", into room enough.
use Rattle.std.specs.Prelude.{◌≡◌, List, ◌++◌, ℕ, ◌*◌, drop, replicate, Result, Ok, Err, IfOk, IfErr, OnErr}
use Rattle.laws.specs.Rows.{Hold}
use Rattle.terms.specs.declared.Refusal.{Refusal}
use Rattle.terms.specs.Answers.{Answers}
use Rattle.terms.specs.Lists.{signal_size}
use Rattle.terms.specs.Results.{result_size}
use Rattle.terms.specs.Requests.{Request, PlanRoom, request, plan_room}
use Rattle.book.specs.Reading.{book_rows, signals_of, settings_in, list_in}
use Rattle.planner.specs.Rows.{Needed, planning_rows}
use Rattle.planner.specs.Planned.{Planned}
use Rattle.plans.specs.declared.Plan.{Plan}

-- what a book asks of planning, and room for any plan
abbrev pub asked_by : List ℕ → Request
asked_by book = request (settings_in book) (list_in book)

abbrev pub blank : PlanRoom
blank = plan_room (replicate 8192 0) (replicate (result_size * 600) 0)

-- a book's plan, in a lent one
pub record PlanOfBook (book : List ℕ) (lent p : Plan) : Type 0 where
  pub sound : Hold (book_rows book)
  pub settings : p.settings ≡ settings_in book
  pub signals : p.signals ≡ signals_of book
  -- the words behind are 0
  pub list : p.list ≡ list_in book ++ drop (signal_size * signals_of book) (replicate (signal_size * 600) 0)
  pub planned :
      Planned (asked_by book) (plan_room lent.cells lent.results) (Ok p.used) (plan_room p.cells p.results)

-- the refusal of the first that does not hold
abbrev pub RefusalOfBook : List ℕ → Refusal → Type 0
RefusalOfBook book e =
    Answers (book_rows book ++ planning_rows (asked_by book) blank) (Needed (settings_in book) (list_in book)) (Err e)

-- the plan or the refusal of a book; a refusal leaves the lent plan as it was
abbrev pub PlanOfSome : Plan → Result Unit Refusal → Plan → Type 0
PlanOfSome lent r p =
    (book : List ℕ) × IfOk r (λ _. PlanOfBook book lent p) × IfErr r (RefusalOfBook book) × OnErr r (p ≡ lent)
