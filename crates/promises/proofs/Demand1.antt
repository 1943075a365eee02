-- Every routine keeps demand 1: it is its contract, as a caller sees it.
-- Assumes nothing.
use mathlib.Core.Path.{◌≡◌, refl, ◌∙◌, sym, subst₂}
use mathlib.Core.List.{List}
use Prim.Native.Nat.{ℕ}
use native.Mathlib.Omega.{arith}
use lib.ListN.{length}
use Rattle.laws.specs.Rows.{Row, FirstRow}
use Rattle.terms.specs.declared.Settings.{Settings}
use Rattle.terms.specs.Answers.{Answer, number_of, place_of, Answers}
use Rattle.terms.specs.Ranges.{setting_word}
use Rattle.std.specs.Prelude.{Result, Ok, Err, unwrap_or, option_map}
use Rattle.terms.specs.declared.Refusal.{Refusal}
use Rattle.book.specs.declared.Reading.{Reading}
use Rattle.book.specs.Outcomes.{answer_of, ReadOutcome}
use Rattle.editor.specs.Answered.{SettingAnswered, BookPlanned}
use Rattle.planner.proofs.PlaceLaws.{planning_small}
use Rattle.promises.specs.Calls.{Return, Routine, Always, Tells, settings_in_reading, Plans, PlansList, PlansBook, Reads, ReadsFromC, Writes, WritesFromC}
use Rattle.promises.specs.Demand1.{Demand1, Demand1Planning, Demand1Reading, Demand1Writing, Demand1Editor}
use Rattle.book.proofs.ReadLaws.{read_exists, settings_exists}
use Rattle.book.proofs.WriteLaws.{write_exists}
use Rattle.promises.proofs.Every.{planned_exists, book_planned_exists}
use Rattle.promises.proofs.PlaceLaws.{Small, comes_apart, writing_small, reading_small, editor_small}

-- what tells the answer of the rows, and changes nothing where it refuses, keeps demand 1 if it always gives
keeps_1 : {Asked Room : Type 0} {rows : Asked → Room → List Row} {done : Asked → ℕ → Type 0} {G : Routine Asked Room}
    → ((x : Asked) (l : Room) → (exit : Room) × (n p : ℕ) × G x l (record { number = n; place = p; lent = exit }))
    → Always G
    (λ x l y. (a : Answer) × Answers (rows x l) (done x) a × ((number_of a ≡ 0 → ⊥) → y.lent ≡ l) × Tells a y)
    → Demand1 rows done G
keeps_1 {rows} {done} some told =
    record {
      every = λ x l. let (exit, n, p, g) = some x l in (record { number = n; place = p; lent = exit }, g);
      numbered = λ x l y g.
          let (a, row, same, t) = told x l y g in
          subst₂ (FirstRow (rows x l) (done x)) (sym t.0) (sym t.1) row;
      unchanged = λ x l y g n. let (a, row, same, t) = told x l y g in same (λ z. n (t.0 ∙ z));
    }

-- ---- planning

pub plan_1 : Demand1Planning Plans
plan_1 =
    keeps_1 (λ x l. let (a, exit, p) = planned_exists x l in (exit, _, _, (a, p, (refl, refl))))
    (λ x l y (a, p, t). (a, p.answer, p.refused, t))

-- the C call gives what planning gives
pub list_plans : Always PlansList Plans
list_plans x l y (r, p, h) =
    let small : Small (place_of p.given) = omega (arith, planning_small x l _ _ p.planned.answer) in
    (p.given, p.planned, comes_apart p.given r y small p.answer h)

pub plan_list_1 : Demand1Planning PlansList
plan_list_1 =
    keeps_1 (λ x l.
    let (a, exit, p) = planned_exists x l in
    (exit, _, _, (_, record { given = a; planned = p; answer = refl }, (refl, refl))))
    (λ x l y g. let (a, p, t) = list_plans x l y g in (a, p.answer, p.refused, t))

-- ---- a book from the editor

-- the answer that the 64 bits hold
pub book_plans : Always PlansBook (λ book l y. (a : Answer) × BookPlanned book l a y.lent × Tells a y)
book_plans book l y (r, p, h) =
    let small = editor_small book (length l) _ _ p.planned.answer in
    (p.given, p.planned, comes_apart p.given r y small p.answer h)

pub plan_book_1 : Demand1Editor PlansBook
plan_book_1 =
    keeps_1 (λ book l.
    let (a, exit, p) = book_planned_exists book l in
    (exit, _, _, (_, record { given = a; planned = p; answer = refl }, (refl, refl))))
    (λ book l y g. let (a, p, t) = book_plans book l y g in (a, p.answer, p.refused, t))

-- ---- reading

-- a refusal of reading leaves the list
read_unchanged : {b l exit : List ℕ} (r : Result Reading Refusal) → ReadOutcome b l r exit
    → (number_of (answer_of r) ≡ 0 → ⊥) → exit ≡ l
read_unchanged (Ok x) read n = absurd (n refl)
read_unchanged (Err e) read n = read.refused

pub read_1 : Demand1Reading Reads
read_1 =
    keeps_1 (λ book l.
    let (r, exit, read) = read_exists book l in
    (exit, _, _, (settings_in_reading r, (r, read, refl, (refl, refl)))))
    (λ book l y (s, (r, read, e, t)). (answer_of r, read.answer, read_unchanged r read, t))

-- the C calls give what reading gives, but for the settings where it refuses
pub c_reads : (book l : List ℕ) (s : Settings) (y : Return (List ℕ)) → ReadsFromC s book l y → (q : Settings) × Reads q book l y
c_reads book l s y (r, read, e, h) =
    let a = answer_of read.reading in
    let small = reading_small book (length l) _ _ read.outcome.answer in
    (settings_in_reading read.reading, (read.reading, read.outcome, refl, comes_apart a r y small read.answer h))

pub read_c_1 : Demand1Reading ReadsFromC
read_c_1 =
    keeps_1 (λ book l.
    let (r, exit, read) = read_exists book l in
    let (s, given) = settings_exists book in
    let word : (w : ℕ) → SettingAnswered book w (unwrap_or (option_map (λ t. setting_word t w) s) 0) =
    λ w. record { settings = s; outcome = given; answer = refl } in
    (exit, _, _, (_, (_, record { reading = r; outcome = read; answer = refl }, (_, word, refl), (refl, refl)))))
    (λ book l y (s, p).
    let (q, (r, read, e, t)) = c_reads book l s y p in
    (answer_of r, read.answer, read_unchanged r read, t))

-- ---- writing

pub write_1 : Demand1Writing Writes
write_1 =
    keeps_1 (λ x l. let (a, exit, w) = write_exists x.settings x.list l in (exit, _, _, (a, w, (refl, refl))))
    (λ x l y (a, w, t). (a, w.answer, w.refused, t))

pub c_writes : Always WritesFromC Writes
c_writes x l y (r, w, h) =
    let small = writing_small x.list (length l) _ _ w.outcome.answer in
    (w.given, w.outcome, comes_apart w.given r y small w.answer h)

pub write_c_1 : Demand1Writing WritesFromC
write_c_1 =
    keeps_1 (λ x l.
    let (a, exit, w) = write_exists x.settings x.list l in
    (exit, _, _, (_, record { given = a; outcome = w; answer = refl }, (refl, refl))))
    (λ x l y g. let (a, w, t) = c_writes x l y g in (a, w.answer, w.refused, t))
