-- Laws of planning: what was judged fits the filling, and what comes of both is planned.
-- Assumes nothing.
use mathlib.Core.Path.{◌≡◌, refl}
use mathlib.Core.List.{List, [], ◌∷◌}
use mathlib.Core.Logic.{inl, inr}
use Prim.Native.Nat.{ℕ}
use native.Mathlib.Omega.{arith}
use lib.ListN.{length}
use Rattle.std.specs.Prelude.{Result, Err}
use Rattle.laws.specs.Rows.{Row, FirstRow, Hold}
use Rattle.laws.specs.Lowest.{EachTo}
use Rattle.laws.proofs.RowLaws.{pass, refused_front}
use Rattle.terms.specs.declared.Settings.{Settings}
use Rattle.terms.specs.declared.Refusal.{Refusal}
use Rattle.terms.specs.Answers.{Answers}
use Rattle.terms.proofs.AnswersLaws.{refusal_numbered}
use Rattle.terms.specs.Requests.{Request, PlanRoom}
use Rattle.terms.specs.Ranges.{Repetition}
use Rattle.terms.specs.Lists.{count, signal_at, group_of, groups, EachSignal}
use Rattle.terms.proofs.RepetitionLaws.{repetition_positive}
use Rattle.rule.specs.Rule.{Keeps, segment, Kept, Repetitions}
use Rattle.rule.proofs.RuleLaws.{largest_unique}
use Rattle.filling.specs.declared.Unfilled.{Unfilled}
use Rattle.filling.specs.Filled.{needed}
use Rattle.filling.proofs.LoadLaws.{needed_same as slots_same}
use Rattle.filling.specs.Outcomes.{repetition_in, Fillable, FillOutcome}
use Rattle.filling.specs.Outcomes.FillOutcome.{unfit, short, done}
use Rattle.planner.specs.Rows.{Needed, slots_row, planning_rows}
use Rattle.planner.specs.Planned.{Planned}
use Rattle.planner.specs.Judged.{judged_rows, Found, filled_answer}

module _ (s : Settings) (list : List ℕ) (R : ℕ → ℕ) (r : Repetitions s list R) where
  -- where each signal's bound is kept, its repetition is one of the seven
  pub kept_seven : EachSignal list (Kept s) → EachTo (count list) (λ i. Repetition (R i))
  kept_seven kept i b =
      let k = kept i b in
      ((r i b).has (λ z. omega (arith, (r i b).largest k.0 k.1 k.2, repetition_positive k.0 k.1))).0

  module _ (Q : ℕ → ℕ) (q : Repetitions s list Q) where
    -- two lists of repetitions of the same signals are the same
    pub repetitions_same : EachTo (count list) (λ i. R i ≡ Q i)
    repetitions_same i b = largest_unique (Keeps s (signal_at list i) (segment s)) (R i) (Q i) (r i b) (q i b)

    pub needed_same : needed list R ≡ needed list Q
    needed_same = slots_same (group_of list) R Q (count list) repetitions_same groups

-- the rows that were judged
abbrev judged : Request → PlanRoom → List Row
judged x lent = judged_rows x (length lent.cells) (length lent.results)

module _ {x : Request} (lent : PlanRoom) where
  -- the judge's refusal is planning's
  pub planned_refused : {e : Refusal} → Answers (judged x lent) (λ p. ⊥) (Err e) → Planned x lent (Err e) lent
  planned_refused {e} f =
      record {
        answer =
            refused_front (slots_row x.settings x.list ∷ []) (Needed x.settings x.list) _ _ (judged x lent) (λ p. ⊥)
            (refusal_numbered e) f;
        refused = λ m. refl;
        done = λ z. absurd (refusal_numbered e z);
      }

  module _ {words : List ℕ} (held : Hold (judged x lent)) (found : Found x.settings x.list words) where
    fillable : Fillable x words lent
    fillable =
        let (settings, (right, (cells, (results, (signals, (kept, u)))))) = held in
        record {
          grouped =
              record {
                right = right;
                given = omega (arith, right.few, found.room);
                group = λ i b. omega (arith, (signals i b).unit);
                seven = kept_seven x.settings x.list (repetition_in words) found.repetitions kept;
              };
          cells = cells;
          results = results;
        }

    -- 9, or done, where the rows before it hold
    asked : (n p : ℕ) → FirstRow (slots_row x.settings x.list ∷ []) (Needed x.settings x.list) n p
        → FirstRow (planning_rows x lent) (Needed x.settings x.list) n p
    asked n p = pass (slots_row x.settings x.list ∷ []) (Needed x.settings x.list) n p (judged x lent) held

    pub planned_filled : {f : Result ℕ Unfilled} {exit : PlanRoom} → FillOutcome x words lent f exit
        → Planned x lent (filled_answer f) exit
    planned_filled (unfit n) = absurd (n fillable)
    planned_filled (short h l) =
        let over : (slots_row x.settings x.list).holds → ⊥ =
        λ all. omega (arith, all (repetition_in words) found.repetitions) in
        record {
          answer = asked 9 _ (inl (over, refl, (repetition_in words, found.repetitions, refl)));
          refused = λ n. refl;
          done = λ z. absurd (omega arith);
        }
    planned_filled (done h l cells results) =
        let fits : (slots_row x.settings x.list).holds =
        λ R r. omega (arith, needed_same x.settings x.list R r (repetition_in words) found.repetitions) in
        record {
          answer = asked 0 _ (inr (fits, (refl, (repetition_in words, found.repetitions, refl))));
          refused = λ n. absurd (n refl);
          done = λ z. record { R = repetition_in words; repetitions = found.repetitions; cells = cells; results = results };
        }
