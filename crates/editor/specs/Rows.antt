-- "From the editor: reading, then planning; its results are its only lent room, so only they can give 10."
use Rattle.std.specs.Prelude.{List, ◌∷◌, ◌++◌, ℕ, ◌*◌}
use Rattle.laws.specs.Rows.{Row}
use Rattle.terms.specs.declared.Settings.{Settings}
use Rattle.terms.specs.Ranges.{setting_row}
use Rattle.terms.specs.Lists.{count}
use Rattle.terms.specs.Results.{result_size}
use Rattle.terms.specs.Answers.{room_row}
use Rattle.book.specs.Reading.{book_rows, settings_in, list_in}
use Rattle.planner.specs.Rows.{signal_rows}

-- "little-endian words": the bytes of the results of a list
abbrev pub result_bytes : List ℕ → ℕ
result_bytes list = 4 * (result_size * count list)

-- 6, 10 for the results, 7, 8, 9; a book that is read has no cause for 4
abbrev pub bytes_rows : Settings → List ℕ → (lent : ℕ) → List Row
bytes_rows s list lent = setting_row s ∷ room_row (result_bytes list) lent ∷ signal_rows s list

abbrev pub editor_rows : List ℕ → (lent : ℕ) → List Row
editor_rows book lent = book_rows book ++ bytes_rows (settings_in book) (list_in book) lent
