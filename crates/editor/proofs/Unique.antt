-- For each call of the editor: two outcomes that its contract allows for the same input are equal.
-- Assumes nothing.
use mathlib.Core.Path.{◌≡◌, ◌∙◌, sym, ap}
use mathlib.Core.List.{List}
use mathlib.Core.Logic.{dite}
use Prim.Native.Nat.{ℕ, ◌*◌}
use native.Mathlib.Decide.{ℕ_discrete}
use native.Mathlib.Omega.{arith}
use lib.ListN.{length}
use Rattle.std.specs.Prelude.{unwrap_or, option_map}
use Rattle.laws.specs.Given.{Given}
use Rattle.laws.proofs.GivenLaws.{given_unique}
use Rattle.laws.proofs.RowLaws.{Numbered, Single, numbered_join, single_join}
use Rattle.terms.specs.declared.Settings.{Settings}
use Rattle.terms.specs.declared.Signal.{Signal}
use Rattle.terms.specs.declared.Frame.{Frame}
use Rattle.terms.specs.Answers.{Answer, number_of, packed_of}
use Rattle.terms.specs.Requests.{Request, PlanRoom}
use Rattle.terms.specs.Ranges.{setting_word}
use Rattle.terms.specs.Lists.{count}
use Rattle.terms.specs.Results.{result_size}
use Rattle.terms.proofs.RangesLaws.{lowest_word_unique}
use Rattle.terms.proofs.AnswersLaws.{answers_unique}
use Rattle.age.specs.AgeGiven.{AgeGiven}
use Rattle.age.proofs.AgeGivenLaws.{age_given_unique}
use Rattle.rule.specs.Rule.{RepetitionGiven}
use Rattle.rule.proofs.RuleLaws.{repetition_given_unique}
use Rattle.filling.proofs.Unique.{filled_same, same_list, words_one}
use Rattle.book.specs.Words.{word_at}
use Rattle.book.specs.Reading.{settings_in, list_in, book_rows}
use Rattle.book.specs.Part.{HasSignal, part_start}
use Rattle.book.specs.Outcomes.{answer_of}
use Rattle.book.proofs.WordLaws.{same_bytes}
use Rattle.book.proofs.SoundLaws.{book_numbered, book_single}
use Rattle.book.proofs.OneOutcome.{read_one, settings_of_one, write_one}
use Rattle.planner.specs.Rows.{Needed}
use Rattle.planner.proofs.PlannedLaws.{repetitions_same}
use Rattle.planner.proofs.Unique.{needed_one, signals_single, planned_unique}
use Rattle.editor.specs.Rows.{result_bytes, bytes_rows, editor_rows}
use Rattle.editor.specs.Answered.{ReadAnswered, SettingAnswered, WriteAnswered, PlanAnswered, BytesShown, BookPlanned, BookAnswered}
use Rattle.editor.proofs.BookLaws.{bytes_numbered}

-- ---- one signal: of `noctelvia_age` and `noctelvia_repetition`

pub age_of_words_unique : (s : Settings) (x : Signal) (f : Frame) (q r : ℕ) → AgeGiven s x f q → AgeGiven s x f r → q ≡ r
age_of_words_unique = age_given_unique

pub repetition_of_words_unique : (s : Settings) (x : Signal) (q r : ℕ) → RepetitionGiven s x q → RepetitionGiven s x r → q ≡ r
repetition_of_words_unique = repetition_given_unique

-- ---- a book: of `noctelvia_read`, `noctelvia_setting`, `noctelvia_write` and `noctelvia_part`

pub read_answered_unique : {book lent : List ℕ} {q r : ℕ} {exit exit' : List ℕ} → ReadAnswered book lent q exit → ReadAnswered book lent r exit'
    → (q ≡ r) × (exit ≡ exit')
read_answered_unique x y =
    let same = read_one x.outcome y.outcome in
    (x.answer ∙ ap (λ r. packed_of (answer_of r)) same.0 ∙ sym y.answer, same.1)

pub setting_answered_unique : {book : List ℕ} {word q r : ℕ} → SettingAnswered book word q → SettingAnswered book word r → q ≡ r
setting_answered_unique {word = word} x y =
    x.answer ∙ ap (λ o. unwrap_or (option_map (λ s. setting_word s word) o) 0) (settings_of_one x.outcome y.outcome) ∙ sym y.answer

pub write_answered_unique : {s : Settings} {list lent : List ℕ} {q r : ℕ} {exit exit' : List ℕ} → WriteAnswered s list lent q exit
    → WriteAnswered s list lent r exit' → (q ≡ r) × (exit ≡ exit')
write_answered_unique x y =
    let same = write_one x.outcome y.outcome in
    (x.answer ∙ ap packed_of same.0 ∙ sym y.answer, same.1)

pub part_byte_unique : (book : List ℕ) (signal q r : ℕ) → Given (HasSignal book signal) (λ at. at ≡ part_start signal) q
    → Given (HasSignal book signal) (λ at. at ≡ part_start signal) r → q ≡ r
part_byte_unique book signal = given_unique (HasSignal book signal) (λ at. at ≡ part_start signal) (λ q r d e. d ∙ sym e)

-- ---- plans: of `noctelvia_plan_list` and `noctelvia_plan`

pub plan_answered_unique : {x : Request} {lent : PlanRoom} {q r : ℕ} {exit exit' : PlanRoom} → PlanAnswered x lent q exit
    → PlanAnswered x lent r exit' → (q ≡ r) × (exit ≡ exit')
plan_answered_unique {x} {lent} p q =
    let same = planned_unique x lent p.planned q.planned in
    (p.answer ∙ ap packed_of same.0 ∙ sym q.answer, same.1)

pub editor_numbered : (book : List ℕ) (lent : ℕ) → Numbered (editor_rows book lent)
editor_numbered book lent =
    numbered_join (book_rows book) (bytes_rows (settings_in book) (list_in book) lent) (book_numbered book)
    (bytes_numbered (settings_in book) (list_in book) lent)

pub editor_single : (book : List ℕ) (lent : ℕ) → Single (editor_rows book lent)
editor_single book lent =
    let s = settings_in book in
    let list = list_in book in
    single_join (book_rows book) (bytes_rows s list lent) (book_single book)
    (lowest_word_unique s, ((λ p q d e. omega arith), signals_single s list))

module _ {book lent : List ℕ} where
  -- the words of the bytes are the same, so the bytes are
  bytes_one : {exit exit' : List ℕ} → BytesShown book lent exit → BytesShown book lent exit' → exit ≡ exit'
  bytes_one {exit} {exit'} x y =
      let s = settings_in book in
      let list = list_in book in
      let same = repetitions_same s list y.R y.repetitions x.R x.repetitions in
      same_list (result_bytes list) lent x.same_length y.same_length x.later y.later
      (same_bytes exit exit' (result_size * count list) x.bytes y.bytes
      (words_one s list x.R (word_at exit) (word_at exit') x.results
      (rw (filled_same list y.R x.R same) at y.results)))

  pub book_planned_unique : {a b : Answer} {exit exit' : List ℕ} → BookPlanned book lent a exit → BookPlanned book lent b exit'
      → (a ≡ b) × (exit ≡ exit')
  book_planned_unique {a} {b} p q =
      let same =
      answers_unique (editor_rows book (length lent)) (Needed (settings_in book) (list_in book)) (needed_one (settings_in book) (list_in book))
      (editor_single book (length lent)) a b p.answer q.answer in
      let q = rw (← same) at q in
      let zero = ℕ_discrete (number_of a) 0 in
      (same, dite zero (λ z. bytes_one (p.done z) (q.done z)) (λ n. p.refused n ∙ sym (q.refused n)))

  pub book_answered_unique : {q r : ℕ} {exit exit' : List ℕ} → BookAnswered book lent q exit → BookAnswered book lent r exit'
      → (q ≡ r) × (exit ≡ exit')
  book_answered_unique p q =
      let same = book_planned_unique p.planned q.planned in
      (p.answer ∙ ap packed_of same.0 ∙ sym q.answer, same.1)
