-- Every place that the rows allow is below 4,294,967,296, so the number and the place of an answer come apart again.
-- Assumes nothing.
use mathlib.Core.Path.{◌≡◌}
use mathlib.Core.List.{List, [], ◌∷◌}
use Prim.Native.Nat.{ℕ, ◌*◌, ◌<◌}
use native.Mathlib.Omega.{arith}
use Rattle.laws.specs.Rows.{FirstRow}
use Rattle.laws.proofs.RowLaws.{place_has}
use Rattle.terms.specs.Answers.{Answer, place_of, packed_of, room_row}
use Rattle.terms.specs.Ranges.{setting_row}
use Rattle.terms.specs.Lists.{signal_size, count}
use Rattle.book.specs.Blocks.{blocks_for, writing_rows}
use Rattle.book.specs.Reading.{signals_of, settings_in, list_in, book_rows, reading_rows}
use Rattle.book.proofs.SoundLaws.{sound_count}
use Rattle.book.proofs.AcceptedLaws.{list_in_range}
use Rattle.planner.specs.Rows.{Needed, signal_rows}
use Rattle.planner.proofs.PlaceLaws.{setting_small, signals_small}
use Rattle.editor.specs.Rows.{result_bytes, bytes_rows, editor_rows}
use Rattle.promises.specs.Calls.{Return, Tells, Halves}

abbrev pub Small : ℕ → Type 0
Small p = p < 4294967296

-- the two halves of the answer are its number and its place
pub comes_apart : {Room : Type 0} (a : Answer) (r : ℕ) (y : Return Room) → Small (place_of a) → r ≡ packed_of a → Halves r y → Tells a y
comes_apart a r y small e h = (omega (arith, h.0), omega (arith, h.1))

pub writing_small : (list : List ℕ) (lent n p : ℕ) → FirstRow (writing_rows list lent) (λ q. q ≡ blocks_for (count list)) n p → Small p
writing_small list lent n p =
    place_has Small (writing_rows list lent) [] (λ q. q ≡ blocks_for (count list)) n p (omega arith) (λ h f. omega arith)

module _ (book : List ℕ) (lent n p : ℕ) where
  pub reading_small : FirstRow (reading_rows book lent) (λ q. q ≡ signals_of book) n p → Small p
  reading_small =
      let last = room_row (signal_size * signals_of book) lent ∷ [] in
      place_has Small (book_rows book) last (λ q. q ≡ signals_of book) n p (omega arith) (λ h.
      place_has Small last [] (λ q. q ≡ signals_of book) n p (omega (arith, sound_count book h))
      (λ r f. omega (arith, sound_count book h)))

  pub editor_small : FirstRow (editor_rows book lent) (Needed (settings_in book) (list_in book)) n p → Small p
  editor_small =
      let s = settings_in book in
      let list = list_in book in
      place_has Small (book_rows book) (bytes_rows s list lent) (Needed s list) n p (omega arith) (λ h.
      let right = list_in_range book h in
      place_has Small (setting_row s ∷ room_row (result_bytes list) lent ∷ []) (signal_rows s list) (Needed s list) n p
      ((λ q w. omega (arith, setting_small s q w)), λ k. omega arith)
      (λ k f. omega (arith, signals_small s list right n p f)))
