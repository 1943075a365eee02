-- What planning gives, for all inputs: an answer, the cells and the results at exit.
use Rattle.std.specs.Prelude.{◌≡◌, ℕ}
use Rattle.terms.specs.Answers.{Answer, number_of, Answers}
use Rattle.terms.specs.Requests.{Request, PlanRoom}
use Rattle.rule.specs.Rule.{Repetitions}
use Rattle.filling.specs.Filled.{filled}
use Rattle.filling.specs.Shown.{CellsShow, ResultsShow}
use Rattle.planner.specs.Rows.{Needed, planning_rows}

-- the cells and the results show the filling with repetitions R, which are the rule's
pub record PlanShown (x : Request) (lent exit : PlanRoom) : Type 0 where
  pub R : ℕ → ℕ
  pub repetitions : Repetitions x.settings x.list R
  pub cells : CellsShow x.settings.slots (filled x.list R) lent.cells exit.cells
  pub results : ResultsShow x.settings x.list (filled x.list R) lent.results exit.results

pub record Planned (x : Request) (lent : PlanRoom) (a : Answer) (exit : PlanRoom) : Type 0 where
  pub answer : Answers (planning_rows x lent) (Needed x.settings x.list) a
  -- "A refusal changes nothing that was lent."
  pub refused : (number_of a ≡ 0 → ⊥) → exit ≡ lent
  pub done : number_of a ≡ 0 → PlanShown x lent exit
