-- For private contracts alone: the plan of a list whose results are bytes, over what planning promises, and those bytes put.
use Rattle.std.specs.Prelude.{◌≡◌, List, ℕ, ◌*◌, ◌≤◌, length, take}
use Rattle.terms.specs.Answers.{Answer, number_of, Answers}
use Rattle.terms.specs.Requests.{Request, PlanRoom}
use Rattle.terms.specs.Lists.{count}
use Rattle.terms.specs.Results.{result_size}
use Rattle.book.specs.Words.{bytes_after}
use Rattle.planner.specs.Rows.{Needed}
use Rattle.planner.specs.Planned.{PlanShown}
use Rattle.editor.specs.Rows.{bytes_rows}

-- planning's answer, with the place of 10 in bytes; where it is done, the words of planning's results as bytes
pub record BytesPlanned (x : Request) (lent : List ℕ) (a : Answer) (exit : List ℕ) : Type 0 where
  pub answer : Answers (bytes_rows x.settings x.list (length lent)) (Needed x.settings x.list) a
  pub refused : (number_of a ≡ 0 → ⊥) → exit ≡ lent
  pub done : number_of a ≡ 0 → (blank room : PlanRoom) × PlanShown x blank room × (result_size * count x.list ≤ length room.results)
      × (exit ≡ bytes_after (take (result_size * count x.list) room.results) lent)

-- what was planned is answered: where it is done the words are put as bytes, and a refusal leaves the bytes
pub record PlannedPut (planned : Answer) (words lent : List ℕ) (a : Answer) (exit : List ℕ) : Type 0 where
  pub answer : a ≡ planned
  pub refused : (number_of planned ≡ 0 → ⊥) → exit ≡ lent
  pub done : number_of planned ≡ 0 → exit ≡ bytes_after words lent
