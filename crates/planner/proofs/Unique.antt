-- The rows of planning: their numbers are not 0 and each has one place; so two outcomes that the contract allows are equal.
-- Assumes nothing.
use mathlib.Core.Path.{◌≡◌, ◌∙◌, sym}
use mathlib.Core.List.{List}
use mathlib.Core.Logic.{dite}
use Prim.Native.Nat.{ℕ}
use native.Mathlib.Decide.{ℕ_discrete}
use native.Mathlib.Omega.{arith}
use Rattle.laws.proofs.RowLaws.{Numbered, Single}
use Rattle.laws.proofs.LowestLaws.{lowest_one}
use Rattle.terms.specs.declared.Settings.{Settings}
use Rattle.terms.specs.Answers.{Answer, number_of}
use Rattle.terms.specs.Requests.{Request, PlanRoom}
use Rattle.terms.proofs.RangesLaws.{lowest_word_unique}
use Rattle.terms.proofs.AnswersLaws.{answers_unique}
use Rattle.planner.specs.Rows.{Needed, signal_rows, planning_rows}
use Rattle.planner.specs.Planned.{PlanShown, Planned}
use Rattle.filling.proofs.Unique.{plan_same}
use Rattle.planner.proofs.PlannedLaws.{repetitions_same, needed_same}

module _ (s : Settings) (list : List ℕ) where
  pub needed_one : (p q : ℕ) → Needed s list p → Needed s list q → p ≡ q
  needed_one p q (R, r, d) (Q, t, e) = d ∙ needed_same s list R r Q t ∙ sym e

  pub signals_numbered : Numbered (signal_rows s list)
  signals_numbered = (omega arith, (omega arith, (omega arith, tt)))

  pub signals_single : Single (signal_rows s list)
  signals_single = (lowest_one _ _, (lowest_one _ _, (needed_one, tt)))

module _ (x : Request) (l : PlanRoom) where
  pub planning_numbered : Numbered (planning_rows x l)
  planning_numbered = (omega arith, (omega arith, (omega arith, (omega arith, signals_numbered x.settings x.list))))

  pub planning_single : Single (planning_rows x l)
  planning_single = (
    lowest_word_unique x.settings,
    ((λ p q d e. omega arith), ((λ p q d e. omega arith), ((λ p q d e. omega arith), signals_single x.settings x.list))),
  )

  pub planned_unique : {a b : Answer} {e f : PlanRoom} → Planned x l a e → Planned x l b f → (a ≡ b) × (e ≡ f)
  planned_unique {a} {b} p q =
      let same =
      answers_unique (planning_rows x l) (Needed x.settings x.list) (needed_one x.settings x.list) planning_single a b p.answer
      q.answer in
      let q = rw (← same) at q in
      let zero = ℕ_discrete (number_of a) 0 in
      (same, dite zero (λ z. both (p.done z) (q.done z)) (λ n. p.refused n ∙ sym (q.refused n)))
    where
      both : {e f : PlanRoom} → PlanShown x l e → PlanShown x l f → e ≡ f
      both p q =
          plan_same x.settings x.list p.R q.R
          (repetitions_same x.settings x.list p.R p.repetitions q.R q.repetitions) p.cells p.results q.cells
          q.results
