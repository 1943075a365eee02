-- Laws of reading: one for each way out, by which every book has an outcome; and what a caller learns from the answer.
-- Assumes nothing.
use Rattle.std.proofs.Common.{◌≡◌, ℕ, ◌*◌, ◌<◌, ◌≤◌, List, [], ◌∷◌, ◌++◌, length, take, drop, refl, ap, ◌∙◌, inl, inr}
use Rattle.std.proofs.Common.{⊎_elim, lt_of_not-le, arith, take_at}
use mathlib.Core.Logic.{dite}
use native.Mathlib.Decide.{dec_le}
use Rattle.laws.specs.Rows.{Row, Hold}
use Rattle.laws.proofs.RowLaws.{hold_join, hold_front, zero_holds, holds_zero, pass, refused_front, same_front}
use Rattle.terms.specs.declared.Settings.{Settings}
use Rattle.std.specs.Prelude.{Option, None, Some, Result, Ok, Err, IfOk}
use Rattle.terms.specs.declared.Refusal.{Refusal}
use Rattle.terms.specs.declared.Refusal.TheVariants.{Room}
use Rattle.terms.specs.Lists.{signal_size}
use Rattle.terms.specs.Answers.{Answer, number_of, place_of, Answers, room_row}
use Rattle.terms.proofs.AnswersLaws.{refusal_numbered}
use Rattle.book.specs.declared.Reading.{Reading}
use Rattle.book.specs.Reading.{signals_of, book_rows, reading_rows, settings_in, list_in}
use Rattle.book.specs.Outcomes.{answer_of, ReadOutcome, SettingsOutcome}
use Rattle.book.proofs.SoundLaws.{sound_count, reading_numbered, judged_sound}
use Rattle.book.proofs.SoundLaws.{book_answer, sound_or_not}
use Rattle.book.proofs.AcceptedLaws.{list_length}

-- what is asked behind a book's own rows, and the place where all is done
abbrev list_room : (b lent : List ℕ) → List Row
list_room b lent = room_row (signal_size * signals_of b) (length lent) ∷ []

abbrev signals : List ℕ → ℕ → Type 0
signals b p = p ≡ signals_of b

-- ---- each way out

module _ {b lent : List ℕ} where
  pub read_refused : {e : Refusal} → Answers (book_rows b) (signals b) (Err e) → ReadOutcome b lent (Err e) lent
  read_refused {e} f =
      record {
        answer =
            refused_front (list_room b lent) (signals b) _ _ (book_rows b) (signals b) (refusal_numbered e) f;
        done = tt;
        refused = refl;
      }

  pub read_short : {n : ℕ} → Hold (book_rows b) → length lent < n → n ≡ signal_size * signals_of b
      → ReadOutcome b lent (Err (Room n)) lent
  read_short sound short is =
      record {
        answer = pass (list_room b lent) (signals b) _ _ (book_rows b) sound (inl ((λ h. omega arith), refl, is));
        done = tt;
        refused = refl;
      }

  pub read_done : {x : Reading} {exit : List ℕ} → Hold (book_rows b) → signal_size * signals_of b ≤ length lent
      → x.signals ≡ signals_of b → x.settings ≡ settings_in b
      → exit ≡ list_in b ++ drop (signal_size * signals_of b) lent → ReadOutcome b lent (Ok x) exit
  read_done sound enough signals_are settings list =
      record {
        answer = pass (list_room b lent) (signals b) _ _ (book_rows b) sound (inr (enough, (refl, signals_are)));
        done = (settings, list);
        refused = tt;
      }

pub read_exists : (b lent : List ℕ) → (r : Result Reading Refusal) × (exit : List ℕ) × ReadOutcome b lent r exit
read_exists b lent = let (a, f) = book_answer b in judged a f
  where
    judged : (a : Answer) → Answers (book_rows b) (signals b) a
        → (r : Result Reading Refusal) × (exit : List ℕ) × ReadOutcome b lent r exit
    judged (Err e) f = (Err e, lent, read_refused f)
    judged (Ok m) f =
        let (sound, place) = judged_sound b (Ok m) f refl in
        dite (dec_le (signal_size * signals_of b) (length lent))
        (λ enough. (Ok (record { settings = settings_in b; signals = m }), _, read_done sound enough place refl refl))
        (λ short. (Err (Room _), lent, read_short sound (lt_of_not-le short) refl))

pub settings_exists : (b : List ℕ) → (s : Option Settings) × SettingsOutcome b s
settings_exists b =
    ⊎_elim (λ h. (Some (settings_in b), record { sound = λ k. refl; unsound = λ n. absurd (n h) }))
    (λ n. (None, record { sound = λ h. absurd (n h); unsound = λ k. refl })) (sound_or_not b)

-- ---- what a caller learns

pub record ReadGives (b : List ℕ) (x : Reading) (exit : List ℕ) : Type 0 where
  pub sound : Hold (book_rows b)
  pub signals : x.signals ≡ signals_of b
  pub settings : x.settings ≡ settings_in b
  pub words : take (signal_size * signals_of b) exit ≡ list_in b

module _ {b lent exit : List ℕ} where
  pub read_gives : {x : Reading} → ReadOutcome b lent (Ok x) exit → ReadGives b x exit
  read_gives read =
      let numbered = reading_numbered b (length lent) in
      let (rows, place) = zero_holds (signals b) _ _ (reading_rows b (length lent)) numbered read.answer refl in
      let given = read.done in
      record {
        sound = hold_front (book_rows b) (list_room b lent) rows;
        signals = place;
        settings = given.0;
        words = ap (take (signal_size * signals_of b)) given.1 ∙ take_at (list_in b) _ _ (list_length b);
      }

  -- a sound book is read where there is room
  pub sound_read : {r : Result Reading Refusal} → ReadOutcome b lent r exit → Hold (book_rows b)
      → signal_size * signals_of b ≤ length lent → r ≡ Ok (record { settings = settings_in b; signals = signals_of b })
  sound_read {r} read sound enough =
      let rows = hold_join (book_rows b) (list_room b lent) sound (enough, tt) in
      let done = holds_zero (signals b) _ _ (reading_rows b (length lent)) rows read.answer in
      known r done.0 done.1 read.done
    where
      known : (r : Result Reading Refusal) → number_of (answer_of r) ≡ 0 → place_of (answer_of r) ≡ signals_of b
          → IfOk r (λ x. (x.settings ≡ settings_in b) × (exit ≡ list_in b ++ drop (signal_size * signals_of b) lent))
          → r ≡ Ok (record { settings = settings_in b; signals = signals_of b })
      known (Err e) zero place given = absurd (refusal_numbered e zero)
      known (Ok x) zero place given = λ i. Ok (record { settings = given.0 i; signals = place i })

  -- so with room for 600 signals a refusal is one by 1 to 5, whatever is asked after
  pub read_refuses : {e : Refusal} → ReadOutcome b lent (Err e) exit → signal_size * 600 ≤ length lent
      → (rest : List Row) (done : ℕ → Type 0) → Answers (book_rows b ++ rest) done (Err e)
  read_refuses {e} read enough rest done =
      same_front (list_room b lent) (signals b) _ _ (book_rows b) rest done
      (λ sound.
      let done = sound_read read sound (omega (arith, (sound_count b sound).0)) in
      refusal_numbered e (ap (λ r. number_of (answer_of r)) done)) read.answer
