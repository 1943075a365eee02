-- A book that is sound and planned: the rows of reading passed, and the bytes of its results show the filling.
-- Assumes nothing.
use mathlib.Core.Path.{◌≡◌, refl, ap, ◌∙◌}
use mathlib.Core.List.{List, ◌++◌}
use Prim.Native.Nat.{ℕ, ◌+◌, ◌*◌, ◌-◌, ◌≤◌}
use native.Mathlib.Omega.{arith}
use lib.ListN.{length, get_or, take, drop, length-take, length-append, length-drop}
use lib.Seq.{get_or-take, get_or-drop, get_or-append-add}
use Rattle.laws.specs.Rows.{Hold}
use Rattle.laws.proofs.RowLaws.{Numbered, zero_holds, pass}
use Rattle.terms.specs.declared.Settings.{Settings}
use Rattle.std.specs.Prelude.{Err}
use Rattle.terms.specs.declared.Refusal.{Refusal}
use Rattle.terms.specs.Answers.{Answer, number_of, place_of}
use Rattle.terms.proofs.AnswersLaws.{refusal_numbered}
use Rattle.terms.specs.Lists.{signal_size}
use Rattle.book.specs.Outcomes.{ReadOutcome}
use Rattle.book.proofs.ReadLaws.{read_refuses}
use Rattle.terms.specs.Requests.{PlanRoom, request}
use Rattle.terms.specs.Lists.{count}
use Rattle.terms.specs.Results.{result_size}
use Rattle.book.specs.Words.{bytes_of, bytes_over}
use Rattle.book.specs.Reading.{settings_in, list_in, book_rows}
use Rattle.book.proofs.WordLaws.{bytes_length, bytes_after_all, byte_in_front}
use Rattle.planner.specs.Rows.{Needed}
use Rattle.planner.specs.Planned.{PlanShown}
use Rattle.planner.proofs.Unique.{signals_numbered}
use Rattle.editor.specs.Rows.{result_bytes, bytes_rows}
use Rattle.editor.specs.Answered.{BytesShown, BookPlanned}
use Rattle.editor.specs.Private.{BytesPlanned}
use Rattle.editor.proofs.ShownLaws.{bytes_show}

pub bytes_numbered : (s : Settings) (list : List ℕ) (lent : ℕ) → Numbered (bytes_rows s list lent)
bytes_numbered s list lent = (omega arith, (omega arith, signals_numbered s list))

module _ (book lent : List ℕ) where
  abbrev s : Settings
  s = settings_in book

  abbrev list : List ℕ
  list = list_in book

  abbrev n : ℕ
  n = result_size * count list

  -- the words of a plan that is shown, as bytes
  pub shown_bytes : Hold (bytes_rows s list (length lent)) → (blank room : PlanRoom)
      → PlanShown (request s list) blank room
      → BytesShown book lent (bytes_over (λ p. get_or (take n room.results) p 0) n lent)
  shown_bytes (settings, (fits, (signals, (kept, (slots, u))))) blank room shown =
      record {
        R = shown.R;
        repetitions = shown.repetitions;
        results =
            bytes_show settings signals kept shown.repetitions (slots shown.R shown.repetitions) (λ d. get_or room.results d 0)
            shown.results.shown word behind (λ j h. get_or-take n room.results j 0 h);
        bytes = byte_in_front word n behind;
        same_length = simp (length-append, length-drop) (omega (arith, size, fits));
        later = λ j l.
            let at : j ≡ length (bytes_of word n) + (j - result_bytes list) = omega (arith, size) in
            ap (λ (i : ℕ). get_or (bytes_of word n ++ behind) i 0) at
            ∙ get_or-append-add (bytes_of word n) behind (j - result_bytes list) 0
            ∙ get_or-drop (result_bytes list) lent (j - result_bytes list) 0
            ∙ ap (λ (i : ℕ). get_or lent i 0) (omega arith);
      }
    where
      word : ℕ → ℕ
      word p = get_or (take n room.results) p 0

      behind : List ℕ
      behind = drop (result_bytes list) lent

      size : length (bytes_of word n) ≡ result_bytes list
      size = bytes_length word n

  -- a refusal of reading, into room for 600 signals, is planning's
  pub book_refused : {room exit : List ℕ} {e : Refusal} → ReadOutcome book room (Err e) exit → signal_size * 600 ≤ length room
      → BookPlanned book lent (Err e) lent
  book_refused {e = e} read enough =
      record {
        answer = read_refuses read enough (bytes_rows s list (length lent)) (Needed s list);
        refused = λ m. refl;
        done = λ z. absurd (refusal_numbered e z);
      }

  pub book_planned : (a : Answer) (exit : List ℕ) → Hold (book_rows book) → BytesPlanned (request s list) lent a exit → BookPlanned book lent a exit
  book_planned a exit sound p =
      record {
        answer = pass (bytes_rows s list (length lent)) (Needed s list) (number_of a) (place_of a) (book_rows book) sound p.answer;
        refused = p.refused;
        done = λ z.
            let (blank, room, shown, enough, e) = p.done z in
            let held =
            (zero_holds (Needed s list) (number_of a) (place_of a) (bytes_rows s list (length lent)) (bytes_numbered s list (length lent)) p.answer z
            ).0 in
            let long : length (take n room.results) ≡ n = simp length-take (omega arith) in
            let bytes = bytes_after_all (take n room.results) lent (omega (arith, long, held.1.0)) in
            rw (e, bytes, long) (shown_bytes held blank room shown);
      }
