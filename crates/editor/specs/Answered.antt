-- What a C caller gets: the answer as one number, and what was lent at exit.
use Rattle.std.specs.Prelude.{◌≡◌, List, ℕ, ◌≤◌, ◌<◌, length, get_or, Option, Result, unwrap_or, option_map}
use Rattle.terms.specs.declared.Settings.{Settings}
use Rattle.terms.specs.declared.Refusal.{Refusal}
use Rattle.terms.specs.Answers.{Answer, number_of, packed_of, Answers}
use Rattle.terms.specs.Requests.{Request, PlanRoom}
use Rattle.terms.specs.Ranges.{setting_word}
use Rattle.rule.specs.Rule.{Repetitions}
use Rattle.filling.specs.Filled.{filled}
use Rattle.filling.specs.Shown.{EachResult}
use Rattle.book.specs.declared.Reading.{Reading}
use Rattle.book.specs.Words.{word_at}
use Rattle.book.specs.Reading.{settings_in, list_in}
use Rattle.book.specs.Outcomes.{answer_of, ReadOutcome, SettingsOutcome, WriteOutcome}
use Rattle.planner.specs.Rows.{Needed}
use Rattle.planner.specs.Planned.{Planned}
use Rattle.editor.specs.Rows.{result_bytes, editor_rows}

pub record ReadAnswered (book lent : List ℕ) (r : ℕ) (exit : List ℕ) : Type 0 where
  pub reading : Result Reading Refusal
  pub outcome : ReadOutcome book lent reading exit
  pub answer : r ≡ packed_of (answer_of reading)

pub record SettingAnswered (book : List ℕ) (word r : ℕ) : Type 0 where
  pub settings : Option Settings
  pub outcome : SettingsOutcome book settings
  pub answer : r ≡ unwrap_or (option_map (λ s. setting_word s word) settings) 0

pub record WriteAnswered (s : Settings) (list lent : List ℕ) (r : ℕ) (exit : List ℕ) : Type 0 where
  pub given : Answer
  pub outcome : WriteOutcome s list lent given exit
  pub answer : r ≡ packed_of given

pub record PlanAnswered (x : Request) (lent : PlanRoom) (r : ℕ) (exit : PlanRoom) : Type 0 where
  pub given : Answer
  pub planned : Planned x lent given exit
  pub answer : r ≡ packed_of given

-- "each result then comes as four little-endian words, 16 bytes a signal": the words of the bytes show the filling with
-- repetitions R, which are the rule's; bytes behind them stay
pub record BytesShown (book lent exit : List ℕ) : Type 0 where
  pub R : ℕ → ℕ
  pub repetitions : Repetitions (settings_in book) (list_in book) R
  pub results : EachResult (settings_in book) (list_in book) (filled (list_in book) R) (word_at exit)
  pub bytes : (j : ℕ) → j < result_bytes (list_in book) → get_or exit j 0 < 256
  pub same_length : length exit ≡ length lent
  pub later : (j : ℕ) → result_bytes (list_in book) ≤ j → get_or exit j 0 ≡ get_or lent j 0

pub record BookPlanned (book lent : List ℕ) (a : Answer) (exit : List ℕ) : Type 0 where
  pub answer : Answers (editor_rows book (length lent)) (Needed (settings_in book) (list_in book)) a
  pub refused : (number_of a ≡ 0 → ⊥) → exit ≡ lent
  pub done : number_of a ≡ 0 → BytesShown book lent exit

pub record BookAnswered (book lent : List ℕ) (r : ℕ) (exit : List ℕ) : Type 0 where
  pub given : Answer
  pub planned : BookPlanned book lent given exit
  pub answer : r ≡ packed_of given
