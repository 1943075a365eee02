-- What is read of a book and what planning gives of it are the plan of the book; and what a plan in any lent room says of
-- the blank one.
-- Assumes nothing.
use mathlib.Core.Path.{◌≡◌, refl}
use mathlib.Core.List.{List, []}
use Prim.Native.Nat.{ℕ, ◌*◌, ◌≤◌}
use native.Mathlib.Omega.{arith}
use lib.ListN.{length, take, length-replicate}
use Rattle.std.specs.Prelude.{Ok, Err}
use Rattle.laws.proofs.RowLaws.{pass, zero_holds}
use Rattle.terms.specs.declared.Refusal.{Refusal}
use Rattle.terms.specs.Answers.{Answer, Answers}
use Rattle.terms.specs.Lists.{signal_size, count}
use Rattle.terms.specs.Results.{result_size}
use Rattle.terms.specs.Requests.{Request, PlanRoom, request, plan_room}
use Rattle.book.specs.declared.Reading.{Reading}
use Rattle.book.specs.Reading.{book_rows, settings_in, list_in}
use Rattle.book.specs.Outcomes.{ReadOutcome}
use Rattle.book.proofs.ReadLaws.{read_gives}
use Rattle.planner.specs.Rows.{Needed, planning_rows}
use Rattle.planner.specs.Planned.{Planned}
use Rattle.planner.proofs.Unique.{planning_numbered}
use Rattle.plans.specs.declared.Plan.{Plan}
use Rattle.plans.specs.declared.TheConstants.{BLANK}
use Rattle.plans.specs.OfBook.{asked_by, blank, PlanOfBook, RefusalOfBook}

module _ {book entry exit : List ℕ} {x : Reading} (read : ReadOutcome book entry (Ok x) exit) {lent : PlanRoom} where
  pub planned_of_book : {a : Answer} {room : PlanRoom}
      → Planned (request x.settings (take (signal_size * x.signals) exit)) lent a room
      → Planned (asked_by book) lent a room
  planned_of_book planned = let g = read_gives read in rw (g.settings, g.signals, g.words) at planned

  -- what is asked of the room is its size
  pub refused_of_book : {e : Refusal} {room : PlanRoom} → length lent.cells ≡ 8192
      → length lent.results ≡ result_size * 600
      → Planned (request x.settings (take (signal_size * x.signals) exit)) lent (Err e) room → RefusalOfBook book e
  refused_of_book cells results planned =
      let asked = rw (cells, results) at (planned_of_book planned).answer in
      pass (planning_rows (asked_by book) blank) (Needed (settings_in book) (list_in book)) _ _ (book_rows book)
      (read_gives read).sound asked

-- what is planned in any room is planned in that of the longest
pub blank_enough : (x : Request) {lent exit : PlanRoom} {used : ℕ} → Planned x lent (Ok used) exit
    → Answers (planning_rows x blank) (Needed x.settings x.list) (Ok used)
blank_enough x {lent} {used = used} planned =
    let (held, needed) =
    zero_holds (Needed x.settings x.list) _ _ (planning_rows x lent) (planning_numbered x lent) planned.answer refl in
    let (settings, (counted, (table, (results, signals)))) = held in
    let cells : 64 * x.settings.slots ≤ length blank.cells = omega (arith, length-replicate {A = ℕ} 8192 0) in
    let words : result_size * count x.list ≤ length blank.results =
    omega (arith, length-replicate {A = ℕ} (result_size * 600) 0) in
    pass [] (Needed x.settings x.list) 0 used (planning_rows x blank) (settings, (counted, (cells, (words, signals))))
    (refl, needed)

-- in a lent plan of zeros all that lies behind the plan is 0
pub blank_lent : {book : List ℕ} {p : Plan} → PlanOfBook book BLANK p
    → Planned (asked_by book) blank (Ok p.used) (plan_room p.cells p.results)
blank_lent h = h.planned
