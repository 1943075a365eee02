-- Every way to plan keeps demand 3 and fills the table as the scope says: over words, a list from C, and a book from the editor.
-- Assumes nothing.
use mathlib.Core.Path.{◌≡◌, sym, subst}
use mathlib.Core.List.{List, [], ◌∷◌}
use Prim.Native.Nat.{ℕ, ◌+◌, ◌≤◌}
use native.Mathlib.Nat.{min-le_left}
use native.Mathlib.Omega.{arith}
use lib.ListN.{length}
use Rattle.terms.specs.declared.Settings.{Settings}
use Rattle.terms.specs.declared.Frame.{Frame}
use Rattle.terms.specs.Ranges.{SignalInRange, setting_row}
use Rattle.terms.specs.Requests.{Request, PlanRoom}
use Rattle.terms.specs.Answers.{room_row}
use Rattle.terms.specs.Lists.{count, EachSignal}
use Rattle.rule.specs.Rule.{Kept, Repetitions}
use Rattle.laws.specs.Rows.{FirstRow, Hold}
use Rattle.laws.proofs.RowLaws.{holds_zero, past}
use Rattle.laws.proofs.SumLaws.{sum_le, sum_const}
use Rattle.filling.specs.Filled.{needed}
use Rattle.filling.specs.Drawn.{slot_used}
use Rattle.book.specs.Reading.{settings_in, list_in, book_rows}
use Rattle.planner.specs.Rows.{Needed, lent_rows, signal_rows}
use Rattle.planner.proofs.PlannedLaws.{kept_seven}
use Rattle.editor.specs.Rows.{result_bytes, bytes_rows}
use Rattle.promises.specs.Calls.{Routine, Always, WhereDone, Plans, PlansList, PlansBook}
use Rattle.promises.specs.Shows.{Planning, over_words, from_book}
use Rattle.promises.specs.Tables.{Table}
use Rattle.promises.specs.Demand1.{Demand1Planning}
use Rattle.promises.specs.Demand3.{Ready, Demand3}
use Rattle.promises.specs.Filling.{ShowsFilling}
use Rattle.promises.proofs.Accepted.{FoundPlan, WordsFound, words_found, list_found, book_found, needed_least, plan_accepted, plan_fills}
use Rattle.promises.proofs.Easing.{eased_count, signals_eased, kept_eased, needed_eased}
use Rattle.promises.proofs.Demand1.{plan_1, plan_list_1, plan_book_1}

-- signals in range that keep their bounds and need no more than m slots are accepted with at most m
accepted_within : (s : Settings) (list : List ℕ) (m : ℕ) → EachSignal list (SignalInRange s) → EachSignal list (Kept s)
    → ((R : ℕ → ℕ) → Repetitions s list R → needed list R ≤ m) → m ≤ s.slots
    → (n p : ℕ) → FirstRow (signal_rows s list) (Needed s list) n p → (n ≡ 0) × (p ≤ m)
accepted_within s list m signals kept least fits n p f =
    let held : Hold (signal_rows s list) = (signals, (kept, ((λ R r. omega (arith, least R r)), tt))) in
    let (z, (R, r, e)) = holds_zero (Needed s list) n p (signal_rows s list) held f in (z, omega (arith, least R r))

-- any way to plan that asks the rows of its signals where it is ready, and shows what it has found where it accepts
module _ {Asked Room : Type 0} {p : Planning Asked Room} {Gives : Routine Asked Room}
    (rows : Always Gives
    (λ x l y. Ready p x l → FirstRow (signal_rows (p.settings x) (p.list x)) (Needed (p.settings x) (p.list x)) y.number y.place))
    (found : WhereDone Gives (λ x l y. FoundPlan (p.settings x) (p.list x) y.place (p.word y.lent))) where
  -- where there is a table, the call is accepted
  accepts : Always Gives
      (λ x l y. Ready p x l → (frame : ℕ → Frame) → Table (p.settings x) (p.list x) frame → y.number ≡ 0)
  accepts x l y g h frame t =
      let s = p.settings x in
      let list = p.list x in
      let all = sum_le (λ k. slot_used (count list) frame (1 + k)) (λ k. 1) s.slots (λ k l. min-le_left 1 _) in
      (accepted_within s list s.slots h.signals
      (λ i b. ((frame i).repetition, (t.drawn.frames i b).repetition, t.keeps i b))
      (λ Q q. omega (arith, needed_least s list Q q frame t, all, sum_const 1 s.slots)) (omega arith) _ _
      (rows x l y g h)).0

  planning_3 : Demand3 p Gives
  planning_3 =
      record {
        refused_exactly = λ x l y g h.
            ((λ n frame t. n (accepts x l y g h frame t)), λ none z. none _ (plan_accepted (found x l y g z)).table);
        refused_strictly = λ x l y g h. (
          (λ n frame t r. n (accepts x l y g h frame t)),
          λ none z. let a = plan_accepted (found x l y g z) in none _ a.table a.rule,
        );
        accepted = λ x l y g z. plan_accepted (found x l y g z);
        eased = λ x l y g z x' l' y' g' same e enough.
            let s = p.settings x' in
            let f =
            subst (λ (t : Settings). FoundPlan t (p.list x) y.place (p.word y.lent)) (sym same)
            (found x l y g z) in
            let signals = signals_eased e s f.signals in
            let seven = kept_seven s (p.list x) f.R f.rule f.kept in
            let ready : Ready p x' l' =
            record { settings = f.settings; whole = eased_count e f.whole; signals = signals; enough = enough } in
            accepted_within s (p.list x') y.place signals (kept_eased e s f.kept)
            (λ Q q. omega (arith, needed_eased e s f.R Q seven f.rule q, f.needs))
            (omega (arith, f.needs, f.fits)) _ _ (rows x' l' y' g' ready);
      }

-- ---- the routines: past the rows before those of the signals

words_3 : {G : Routine Request PlanRoom} → Demand1Planning G
    → WhereDone G (λ x l y. WordsFound x l y.place y.lent) → Demand3 over_words G
words_3 one finds =
    planning_3 (λ x l y g h.
    past (signal_rows x.settings x.list) (Needed x.settings x.list) _ _
    (lent_rows x (length l.cells) (length l.results))
    (h.settings, (h.whole, (h.enough.0, (h.enough.1, tt))))
    (one.numbered x l y g)) (λ x l y g z. (finds x l y g z).found)

pub plan_3 : Demand3 over_words Plans
plan_3 = words_3 plan_1 words_found

pub plan_list_3 : Demand3 over_words PlansList
plan_list_3 = words_3 plan_list_1 list_found

pub plan_book_3 : Demand3 from_book PlansBook
plan_book_3 =
    planning_3 (λ book l y g h.
    let s = settings_in book in
    let list = list_in book in
    past (signal_rows s list) (Needed s list) _ _ (setting_row s ∷ room_row (result_bytes list) (length l) ∷ [])
    (h.settings, (h.enough.1, tt))
    (past (bytes_rows s list (length l)) (Needed s list) _ _ (book_rows book) h.enough.0
    (plan_book_1.numbered book l y g)))
    (λ book l y g z. (book_found book l y g z).found)

pub plan_fills_3 : ShowsFilling over_words Plans
plan_fills_3 x l y g z = plan_fills (words_found x l y g z).found

pub plan_list_fills : ShowsFilling over_words PlansList
plan_list_fills x l y g z = plan_fills (list_found x l y g z).found

pub plan_book_fills : ShowsFilling from_book PlansBook
plan_book_fills book l y g z = plan_fills (book_found book l y g z).found
