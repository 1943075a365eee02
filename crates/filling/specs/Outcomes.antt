-- What filling gives, for all inputs: how many slots, and the cells and the results at exit.
use Rattle.std.specs.Prelude.{List, ℕ, ◌*◌, ◌-◌, ◌≤◌, ◌<◌, length, get_or, Result, Ok, Err}
use Rattle.laws.specs.Lowest.{EachTo}
use Rattle.terms.specs.Requests.{Request, PlanRoom, plan_room}
use Rattle.terms.specs.Ranges.{Repetition}
use Rattle.terms.specs.Lists.{CountInRange, count, group_of, groups}
use Rattle.terms.specs.Results.{result_size}
use Rattle.filling.specs.declared.Unfilled.{Unfilled}
use Rattle.filling.specs.declared.Unfilled.TheVariants.{Short, Unfit}
use Rattle.filling.specs.Filled.{needed, filled}
use Rattle.filling.specs.Shown.{CellsShow, ResultsShow}

-- the repetitions of signals numbered from 1, as words
abbrev pub repetition_in : List ℕ → ℕ → ℕ
repetition_in words i = get_or words (i - 1) 0

-- each signal has its repetition among the words, one of the seven, and a group
pub record Grouped (list words : List ℕ) : Type 0 where
  pub right : CountInRange list
  pub given : count list ≤ length words
  pub group : EachTo (count list) (λ i. group_of list i < groups)
  pub seven : EachTo (count list) (λ i. Repetition (repetition_in words i))

-- what filling rests on
pub record Fillable (x : Request) (words : List ℕ) (lent : PlanRoom) : Type 0 where
  pub grouped : Grouped x.list words
  pub cells : 64 * x.settings.slots ≤ length lent.cells
  pub results : result_size * count x.list ≤ length lent.results

pub data FillOutcome (x : Request) (words : List ℕ) (lent : PlanRoom) : Result ℕ Unfilled → PlanRoom → Type 0 where
  unfit : (Fillable x words lent → ⊥) → FillOutcome x words lent (Err Unfit) lent
  short :
      Fillable x words lent →
      x.settings.slots < needed x.list (repetition_in words) →
      FillOutcome x words lent (Err (Short (needed x.list (repetition_in words)))) lent
  done :
      {cells results : List ℕ} →
      Fillable x words lent →
      needed x.list (repetition_in words) ≤ x.settings.slots →
      CellsShow x.settings.slots (filled x.list (repetition_in words)) lent.cells cells →
      ResultsShow x.settings x.list (filled x.list (repetition_in words)) lent.results results →
      FillOutcome x words lent (Ok (needed x.list (repetition_in words))) (plan_room cells results)
