-- For every input some outcome meets each contract of planning, so no statement about outcomes holds for want of one.
-- Assumes nothing.
use mathlib.Core.Path.{◌≡◌, refl, sym}
use mathlib.Core.List.{List, ◌∷◌}
use mathlib.Core.Logic.{dite}
use Prim.Native.Nat.{ℕ, ◌*◌, ◌≤◌, ◌<◌}
use native.Mathlib.Decide.{ℕ_discrete}
use native.Mathlib.Omega.{arith}
use lib.ListN.{length, replicate, length-replicate}
use Rattle.laws.specs.Lowest.{EachTo}
use Rattle.laws.specs.Rows.{Row, Hold}
use Rattle.laws.proofs.RowLaws.{Numbered, zero_holds, hold_rest}
use Rattle.laws.proofs.DecidedLaws.{Decided, first_row, decided_join}
use Rattle.terms.specs.declared.Settings.{Settings}
use Rattle.std.specs.Prelude.{Err}
use Rattle.terms.specs.declared.Refusal.TheVariants.{Count, Setting, Field, Bound, Slots, Room}
use Rattle.terms.specs.Answers.{Answer, number_of, place_of, Answers, room_row}
use Rattle.terms.specs.Requests.{Request, PlanRoom, request, plan_room}
use Rattle.terms.specs.Ranges.{SettingsInRange}
use Rattle.terms.specs.Lists.{count, group_of, groups}
use Rattle.terms.specs.Results.{result_size}
use Rattle.terms.proofs.AnswersLaws.{Answerable, answerable_join, answer_exists}
use Rattle.filling.proofs.Exists.{show_exists}
use Rattle.book.specs.Reading.{settings_in, list_in, book_rows}
use Rattle.book.proofs.SoundLaws.{book_decided, book_answerable}
use Rattle.planner.specs.Rows.{Needed, signal_rows, planning_rows}
use Rattle.planner.specs.Planned.{PlanShown, Planned}
use Rattle.planner.proofs.PlannedLaws.{kept_seven}
use Rattle.planner.proofs.Unique.{planning_numbered}
use Rattle.editor.specs.Rows.{result_bytes, bytes_rows, editor_rows}
use Rattle.editor.specs.Answered.{BytesShown, BookPlanned}
use Rattle.editor.proofs.BookLaws.{shown_bytes}
use Rattle.editor.proofs.Unique.{editor_numbered}
use Rattle.promises.proofs.Deciding.{repetitions_exist, signals_decided, after_settings, after_room, planning_decided}

-- ---- answers for the rows

signals_answerable : (s : Settings) (list : List ℕ) → Answerable (signal_rows s list)
signals_answerable s list =
    ((λ p l. (Err (Field p), refl, refl)), ((λ p l. (Err (Bound p), refl, refl)), ((λ p l. (Err (Slots p), refl, refl)), tt)))

room_answer : {needs : ℕ} (p : ℕ) → p ≡ needs → (a : Answer) × (number_of a ≡ 10) × (place_of a ≡ p)
room_answer p e = (Err (Room p), refl, refl)

planning_answerable : (x : Request) (l : PlanRoom) → Answerable (planning_rows x l)
planning_answerable x l =
    let signals = signals_answerable x.settings x.list in
    ((λ p w. (Err (Setting p), refl, refl)), ((λ p e. (Err Count, refl, sym e)), (room_answer, (room_answer, signals))))

bytes_answerable : (s : Settings) (list : List ℕ) (lent : ℕ) → Answerable (bytes_rows s list lent)
bytes_answerable s list lent = ((λ p w. (Err (Setting p), refl, refl)), (room_answer, signals_answerable s list))

-- ---- an outcome for every input

-- rows that are decided and answerable have an answer; room is shown where all hold, else it stays
outcome_exists : {Room : Type 0} (rows : List Row) (done : ℕ → Type 0) (l : Room) (Shown : Room → Type 0)
    → Decided rows → Answerable rows → Numbered rows → (Hold rows → (exit : Room) × Shown exit)
    → ((exit : Room) → Shown exit → (p : ℕ) × done p)
    → (a : Answer) × (exit : Room) × Answers rows done a × ((number_of a ≡ 0 → ⊥) → exit ≡ l)
    × (number_of a ≡ 0 → Shown exit)
outcome_exists rows done l Shown decided answerable numbered show place =
    let (n, p, first) = first_row rows done decided (λ h. let e = show h in place e.0 e.1) in
    let (a, f) = answer_exists rows done n p answerable first in
    dite (ℕ_discrete (number_of a) 0)
    (λ z.
    let (exit, shown) = show (zero_holds done (number_of a) (place_of a) rows numbered f z).0 in
    (a, exit, f, (λ n. absurd (n z)), λ y. shown))
    (λ n. (a, l, f, (λ m. refl), λ z. absurd (n z)))

-- the plan shown, in room that is long enough
plan_exists : (s : Settings) (list : List ℕ) (lent : PlanRoom) → SettingsInRange s → Hold (signal_rows s list)
    → 64 * s.slots ≤ length lent.cells → result_size * count list ≤ length lent.results
    → (exit : PlanRoom) × PlanShown (request s list) lent exit
plan_exists s list lent settings (signals, (kept, (fits, u))) cells results =
    let (R, r) = repetitions_exist s list settings signals in
    let grouped : EachTo (count list) (λ i. group_of list i < groups) = λ i b. omega (arith, (signals i b).unit) in
    let e = show_exists s list R (kept_seven s list R r kept) grouped (fits R r) lent cells results in
    (e.0, record { R = R; repetitions = r; cells = e.1; results = e.2 })

-- ---- planning

pub planned_exists : (x : Request) (l : PlanRoom) → (a : Answer) × (exit : PlanRoom) × Planned x l a exit
planned_exists x l =
    let (a, exit, f, refused, done) =
    outcome_exists (planning_rows x l) (Needed x.settings x.list) l (PlanShown x l) (planning_decided x l)
    (planning_answerable x l) (planning_numbered x l)
    (λ h. plan_exists x.settings x.list l h.0 h.1.1.1.1 h.1.1.0 h.1.1.1.0)
    (λ exit shown. (_, (shown.R, shown.repetitions, refl))) in
    (a, exit, record { answer = f; refused = refused; done = done })

-- ---- a book from the editor

module _ (book l : List ℕ) where
  abbrev s : Settings
  s = settings_in book

  abbrev list : List ℕ
  list = list_in book

  editor_decided : Decided (editor_rows book (length l))
  editor_decided =
      decided_join (book_rows book) (bytes_rows s list (length l)) (book_decided book) (λ sound.
      after_settings s (room_row (result_bytes list) (length l) ∷ signal_rows s list) (λ settings.
      after_room (result_bytes list) (length l) (signal_rows s list) (signals_decided s list settings)))

  -- the bytes of a plan in words of its own
  bytes_exist : Hold (bytes_rows s list (length l)) → (exit : List ℕ) × BytesShown book l exit
  bytes_exist h =
      let blank = plan_room (replicate (64 * s.slots) 0) (replicate (result_size * count list) 0) in
      let cells : 64 * s.slots ≤ length blank.cells = omega (arith, length-replicate {A = ℕ} (64 * s.slots) 0) in
      let results : result_size * count list ≤ length blank.results = omega (arith, length-replicate {A = ℕ} (result_size * count list) 0) in
      let e = plan_exists s list blank h.0 h.1.1 cells results in
      (_, shown_bytes book l h blank e.0 e.1)

  pub book_planned_exists : (a : Answer) × (exit : List ℕ) × BookPlanned book l a exit
  book_planned_exists =
      let bytes = bytes_rows s list (length l) in
      let answerable =
      answerable_join (book_rows book) bytes (book_answerable book) (bytes_answerable s list (length l)) in
      let (a, exit, f, refused, done) =
      outcome_exists (editor_rows book (length l)) (Needed s list) l (BytesShown book l) editor_decided answerable
      (editor_numbered book (length l)) (λ h. bytes_exist (hold_rest (book_rows book) bytes h))
      (λ exit shown. (_, (shown.R, shown.repetitions, refl))) in
      (a, exit, record { answer = f; refused = refused; done = done })
