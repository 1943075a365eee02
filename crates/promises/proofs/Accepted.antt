-- What an accepted call has found and shows, over words and of a book in bytes: words that show the filling of a list
-- show an accepted plan, whether they are lent as words or stand in bytes.
-- Assumes nothing.
use mathlib.Core.Path.{◌≡◌, ◌∙◌, sym, subst}
use mathlib.Core.List.{List, Memᴰ}
use Prim.Native.Nat.{ℕ, ◌*◌, ◌≤◌, ◌<◌}
use native.Mathlib.Omega.{arith}
use lib.ListN.{length}
use Rattle.laws.specs.Rows.{Hold}
use Rattle.laws.specs.Lowest.{EachTo}
use Rattle.laws.proofs.RowLaws.{zero_holds, hold_front, hold_rest}
use Rattle.laws.proofs.NumbersLaws.{among}
use Rattle.terms.specs.declared.Settings.{Settings}
use Rattle.terms.specs.Requests.{Request, PlanRoom}
use Rattle.terms.specs.Ranges.{SettingsInRange, SignalInRange, FrameInRange, Repetition}
use Rattle.terms.specs.Lists.{CountInRange, count, EachSignal, signal_at, group_of, groups}
use Rattle.terms.specs.Results.{result_size, result_at}
use Rattle.terms.specs.declared.Frame.{Frame}
use Rattle.age.specs.Age.{Age}
use Rattle.rule.specs.Rule.{Kept, Repetitions, Keeps, segment, Largest}
use Rattle.filling.specs.Filled.{needed, filled}
use Rattle.filling.specs.Shown.{CellsShow, EachResult}
use Rattle.filling.specs.Runs.{Placed}
use Rattle.filling.specs.Drawn.{Drawn, slots_used, FillingShown}
use Rattle.filling.proofs.FilledLaws.{filled_own}
use Rattle.filling.proofs.LoadLaws.{needed_monotone}
use Rattle.filling.proofs.FewestLaws.{fewest}
use Rattle.filling.proofs.DrawnLaws.{each_frame, filled_drawn, filled_used, filled_shown}
use Rattle.book.specs.Words.{word_at}
use Rattle.book.specs.Reading.{settings_in, list_in, book_rows}
use Rattle.book.proofs.AcceptedLaws.{list_in_range}
use Rattle.planner.specs.Rows.{Needed, signal_rows, planning_rows}
use Rattle.planner.proofs.PlannedLaws.{needed_same, kept_seven}
use Rattle.planner.proofs.Unique.{planning_numbered}
use Rattle.editor.specs.Rows.{result_bytes, bytes_rows, editor_rows}
use Rattle.editor.proofs.Unique.{editor_numbered}
use Rattle.promises.specs.Calls.{WhereDone, Plans, PlansList, PlansBook}
use Rattle.promises.specs.Shows.{over_words, frame_of, age_of}
use Rattle.promises.specs.Demand2.{Behind, AgeShown}
use Rattle.promises.specs.Tables.{Table}
use Rattle.promises.specs.Demand3.{AcceptedPlan}
use Rattle.promises.proofs.Demand1.{plan_1, list_plans, plan_book_1, book_plans}
use Rattle.promises.proofs.Clock.{releases, starts_named}

pub record FoundPlan (s : Settings) (list : List ℕ) (place : ℕ) (word : ℕ → ℕ) : Type 0 where
  pub settings : SettingsInRange s
  pub whole : CountInRange list
  pub signals : EachSignal list (SignalInRange s)
  pub kept : EachSignal list (Kept s)
  pub R : ℕ → ℕ
  pub rule : Repetitions s list R
  pub fits : needed list R ≤ s.slots
  pub needs : place ≡ needed list R
  pub results : EachResult s list (filled list R) word

-- the rows of the signals hold, and the words show the filling
abbrev found : {s : Settings} {list : List ℕ} {place : ℕ} {word : ℕ → ℕ} → SettingsInRange s → CountInRange list
    → Hold (signal_rows s list) → Needed s list place → (R : ℕ → ℕ) → Repetitions s list R
    → EachResult s list (filled list R) word → FoundPlan s list place word
found {s} {list} settings whole (signals, (kept, (fits, u))) (Q, q, e) R rule results =
    record {
      settings = settings;
      whole = whole;
      signals = signals;
      kept = kept;
      R = R;
      rule = rule;
      fits = fits R rule;
      needs = e ∙ needed_same s list Q q R rule;
      results = results;
    }

-- over words: the cells too, and what lies behind
pub record WordsFound (x : Request) (l : PlanRoom) (place : ℕ) (exit : PlanRoom) : Type 0 where
  pub found : FoundPlan x.settings x.list place (over_words.word exit)
  pub cells : CellsShow x.settings.slots (filled x.list found.R) l.cells exit.cells
  pub behind : Behind (result_size * count x.list) l.results exit.results

pub words_found : WhereDone Plans (λ x l y. WordsFound x l y.place y.lent)
words_found x l y (a, p, t) z =
    let (rows, needs) =
    zero_holds (Needed x.settings x.list) _ _ (planning_rows x l) (planning_numbered x l)
    (plan_1.numbered x l y (a, p, t)) z in
    let shown = p.done (sym t.0 ∙ z) in
    record {
      found = found rows.0 rows.1.0 rows.1.1.1.1 needs _ shown.repetitions shown.results.shown;
      cells = shown.cells;
      behind = (shown.results.same_length, shown.results.later);
    }

pub list_found : WhereDone PlansList (λ x l y. WordsFound x l y.place y.lent)
list_found x l y g = words_found x l y (list_plans x l y g)

-- of a book
pub record BookFound (book l : List ℕ) (place : ℕ) (exit : List ℕ) : Type 0 where
  pub found : FoundPlan (settings_in book) (list_in book) place (word_at exit)
  pub behind : Behind (result_bytes (list_in book)) l exit

pub book_found : WhereDone PlansBook (λ book l y. BookFound book l y.place y.lent)
book_found book l y g z =
    let bytes = bytes_rows (settings_in book) (list_in book) (length l) in
    let (rows, needs) =
    zero_holds (Needed (settings_in book) (list_in book)) _ _ (editor_rows book (length l))
    (editor_numbered book (length l)) (plan_book_1.numbered book l y g) z in
    let sound = hold_front (book_rows book) bytes rows in
    let asked = hold_rest (book_rows book) bytes rows in
    let (a, p, t) = book_plans book l y g in
    let shown = p.done (sym t.0 ∙ z) in
    record {
      found = found asked.0 (list_in_range book sound) asked.1.1 needs _ shown.repetitions shown.results;
      behind = (shown.same_length, shown.later);
    }

-- any table under the rule uses at least the slots needed: its repetitions keep the bounds, and the rule's are the largest that do
pub needed_least : (s : Settings) (list : List ℕ) (R : ℕ → ℕ) → Repetitions s list R → (other : ℕ → Frame) → Table s list other → needed list R ≤ slots_used s.slots (count list) other
needed_least s list R rule other t =
    let least = fewest s.slots (count list) (group_of list) other t.drawn groups in
    let falls =
    needed_monotone (group_of list) (λ i. (other i).repetition) R (count list) (λ i b. (t.drawn.frames i b).repetition)
    (λ i b. (rule i b).largest (other i).repetition (t.drawn.frames i b).repetition (t.keeps i b)) groups in
    omega (arith, least, falls)

module _ {s : Settings} {list : List ℕ} {place : ℕ} {word : ℕ → ℕ} (f : FoundPlan s list place word) where
  seven : EachTo (count list) (λ i. Repetition (f.R i))
  seven = kept_seven s list f.R f.rule f.kept

  pub grouped : EachTo (count list) (λ i. group_of list i < groups)
  grouped i b = omega (arith, (f.signals i b).unit)

  shows : (p : Placed) → Memᴰ p (filled list f.R) → frame_of word p.signal ≡ p.frame
  shows p m = (f.results p m).frame

  pub drawn : Drawn s.slots (count list) (group_of list) (frame_of word)
  drawn = filled_drawn list f.R (frame_of word) shows seven grouped s.slots f.fits

  pub ages_shown : EachTo (count list) (λ i. AgeShown s (signal_at list i) (result_at word i))
  ages_shown i b =
      record {
        releases = releases (signal_at list i).offset (signal_at list i).period (f.signals i b).period.0;
        frame = drawn.frames i b;
        starts = starts_named s (frame_of word i) (drawn.frames i b);
        is_age =
            each_frame list f.R (frame_of word) shows (λ j g. Age s (signal_at list j) g (age_of word j)) (λ p m.
            let own = (filled_own list f.R p m).0 in
            (f.results p m).age.inside
            (record {
              valid = record { settings = f.settings; signal = f.signals p.signal own };
              frame = subst (FrameInRange s.slots) (shows p m) (drawn.frames p.signal own);
            })) i b;
      }

  rule : Repetitions s list (λ i. (frame_of word i).repetition)
  rule =
      each_frame list f.R (frame_of word) shows (λ i g. Largest (Keeps s (signal_at list i) (segment s)) g.repetition)
      (λ p m.
      let own = filled_own list f.R p m in
      subst (Largest (Keeps s (signal_at list p.signal) (segment s))) (sym own.1) (f.rule p.signal own.0))

  table : Table s list (frame_of word)
  table = record { drawn = drawn; keeps = λ i b. ((rule i b).has (λ z. omega (arith, z, (drawn.frames i b).base))).1 }

  pub plan_accepted : AcceptedPlan s list place (frame_of word) (age_of word)
  plan_accepted =
      record {
        rule = rule;
        table = table;
        bounds = λ i b.
            let g = drawn.frames i b in
            table.keeps i b (frame_of word i).slot (frame_of word i).base (age_of word i)
            (among 1 s.slots (frame_of word i).slot g.slot.0 (omega (arith, g.slot))) g.base (ages_shown i b).is_age;
        used = filled_used list f.R (frame_of word) shows seven grouped s.slots f.fits ∙ sym f.needs;
        fewest = λ other t. omega (arith, f.needs, needed_least s list f.R f.rule other t);
      }

  pub plan_fills : FillingShown (count list) (group_of list) (frame_of word)
  plan_fills = filled_shown list f.R (frame_of word) shows seven grouped
