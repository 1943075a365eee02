-- What each public routine promises of its outcome, for all inputs: these records are the contracts.
use Rattle.std.specs.Prelude.{◌≡◌, ℕ, ◌+◌, ◌*◌, List, [], ◌++◌, length, take, drop, ◌≢◌}
use Rattle.std.specs.Prelude.{Option, None, Some, Result, Ok, Err, IfOk, OnErr}
use Rattle.laws.specs.Rows.{Hold}
use Rattle.terms.specs.declared.Settings.{Settings}
use Rattle.terms.specs.declared.Refusal.{Refusal}
use Rattle.terms.specs.Lists.{signal_size, count}
use Rattle.terms.specs.Answers.{Answer, number_of, Answers}
use Rattle.book.specs.declared.Reading.{Reading}
use Rattle.book.specs.Blocks.{blocks_for, book_of, writing_rows}
use Rattle.book.specs.Reading.{signals_of, book_rows, reading_rows, settings_in, list_in}
use Rattle.book.specs.Part.{HasSignal, part_size, part_start}

-- the answer of a reading: it leaves the settings out
abbrev pub answer_of : Result Reading Refusal → Answer
answer_of (Ok r) = Ok r.signals
answer_of (Err e) = Err e

-- reading a book into a lent list: the answer, the settings, and the list at exit
pub record ReadOutcome (book lent : List ℕ) (r : Result Reading Refusal) (exit : List ℕ) : Type 0 where
  pub answer : Answers (reading_rows book (length lent)) (λ p. p ≡ signals_of book) (answer_of r)
  pub done :
      IfOk r (λ x.
      (x.settings ≡ settings_in book) × (exit ≡ list_in book ++ drop (signal_size * signals_of book) lent))
  pub refused : OnErr r (exit ≡ lent)

-- the settings of a sound book
pub record SettingsOutcome (book : List ℕ) (r : Option Settings) : Type 0 where
  pub sound : Hold (book_rows book) → r ≡ Some (settings_in book)
  pub unsound : (Hold (book_rows book) → ⊥) → r ≡ None

-- writing settings and a list into lent room: the answer, and the room at exit
pub record WriteOutcome (s : Settings) (list lent : List ℕ) (r : Answer) (exit : List ℕ) : Type 0 where
  pub answer : Answers (writing_rows list (length lent)) (λ p. p ≡ blocks_for (count list)) r
  pub done : number_of r ≡ 0 → exit ≡ book_of s list ++ drop (512 * blocks_for (count list)) lent
  pub refused : (number_of r ≢ 0) → exit ≡ lent

-- the part for signal i of a book that stands at a place in memory: what it holds, and where it starts
pub record PartOutcome (book : List ℕ) (place : ℕ × ℕ) (i : ℕ) (r : List ℕ) (start : ℕ × ℕ) : Type 0 where
  pub has :
      HasSignal book i →
      (r ≡ take part_size (drop (part_start i) book)) × (start ≡ (place.0, place.1 + part_start i))
  -- "the part is empty and starts at byte 0"
  pub lacks : (HasSignal book i → ⊥) → (r ≡ []) × (start ≡ place)
