-- What a plan shows: frames and ages in the words of its results; the same for planning over words and for planning a book, whose
-- results are bytes.
use Rattle.std.specs.Prelude.{List, ℕ, ◌*◌, ◌≤◌, length, get_or}
use Rattle.laws.specs.Rows.{Hold}
use Rattle.terms.specs.declared.Settings.{Settings}
use Rattle.terms.specs.declared.Frame.{Frame}
use Rattle.terms.specs.Requests.{Request, PlanRoom}
use Rattle.terms.specs.Lists.{count}
use Rattle.terms.specs.Results.{result_size, result_at}
use Rattle.book.specs.Words.{word_at}
use Rattle.book.specs.Reading.{book_rows, settings_in, list_in}
use Rattle.editor.specs.Rows.{result_bytes}

-- the frame and the age of signal i's result, in a row of words
abbrev pub frame_of : (word : ℕ → ℕ) → ℕ → Frame
frame_of word i = (result_at word i).frame

abbrev pub age_of : (word : ℕ → ℕ) → ℕ → ℕ
age_of word i = (result_at word i).age

-- a way to plan: the settings and the list that are planned, whether enough is lent, and word p of the results
pub record Planning (Asked Room : Type 0) : Type 1 where
  pub settings : Asked → Settings
  pub list : Asked → List ℕ
  pub enough : Asked → Room → Type 0
  pub word : Room → ℕ → ℕ

-- over lent words
abbrev pub over_words : Planning Request PlanRoom
over_words =
    record {
      settings = λ x. x.settings;
      list = λ x. x.list;
      enough = λ x l. (64 * x.settings.slots ≤ length l.cells) × (result_size * count x.list ≤ length l.results);
      word = λ l p. get_or l.results p 0;
    }

-- of a book that 1 to 5 do not refuse, its results "as four little-endian words, 16 bytes a signal"
abbrev pub from_book : Planning (List ℕ) (List ℕ)
from_book =
    record {
      settings = settings_in;
      list = list_in;
      enough = λ book l. Hold (book_rows book) × (result_bytes (list_in book) ≤ length l);
      word = word_at;
    }
