-- For private contracts alone: what the judge asks and finds before the table is filled, and the answer after that.
use Rattle.std.specs.Prelude.{◌≡◌, List, [], ◌∷◌, ◌++◌, ℕ, length, Result, Ok, Err}
use Rattle.laws.specs.Rows.{Row, Hold}
use Rattle.terms.specs.declared.Settings.{Settings}
use Rattle.terms.specs.declared.Refusal.{Refusal}
use Rattle.terms.specs.declared.Refusal.TheVariants as refusal
use Rattle.terms.specs.Answers.{Answer, Answers}
use Rattle.terms.specs.Requests.{Request}
use Rattle.terms.specs.Ranges.{SettingsInRange, SignalInRange}
use Rattle.terms.specs.Lists.{CountInRange, EachSignal}
use Rattle.rule.specs.Rule.{Repetitions}
use Rattle.filling.specs.Outcomes.{repetition_in}
use Rattle.filling.specs.declared.Unfilled.{Unfilled}
use Rattle.filling.specs.declared.Unfilled.TheVariants.{Short, Taken, Unfit}
use Rattle.planner.specs.Rows.{lent_rows, field_row, bound_row}

-- all rows hold, or it is the refusal of the first that does not
abbrev pub Passes : {T : Type 0} → List Row → Result T Refusal → Type 0
Passes rows (Ok t) = Hold rows
Passes rows (Err e) = Answers rows (λ p. ⊥) (Err e)

-- what the search for repetitions rests on
pub record Judgeable (s : Settings) (list : List ℕ) : Type 0 where
  pub settings : SettingsInRange s
  pub right : CountInRange list
  pub signals : EachSignal list (SignalInRange s)

-- the words are the repetitions of all signals
pub record Found (s : Settings) (list words : List ℕ) : Type 0 where
  pub room : length words ≡ 600
  pub repetitions : Repetitions s list (repetition_in words)

-- 6, 4, 10, 7 and 8
abbrev pub judged_rows : Request → (cells results : ℕ) → List Row
judged_rows x cells results =
    lent_rows x cells results ++ (field_row x.settings x.list ∷ bound_row x.settings x.list ∷ [])

-- planning's answer of what filling gives
abbrev pub filled_answer : Result ℕ Unfilled → Answer
filled_answer (Ok n) = Ok n
filled_answer (Err (Short n)) = Err (refusal.Slots n)
filled_answer (Err (Taken i)) = Err (refusal.Taken i)
filled_answer (Err Unfit) = Err (refusal.Taken 0)
