-- Two outcomes that a public routine's contract allows are equal, one theorem a routine.
-- Assumes nothing.
use Rattle.std.proofs.Common.{◌≡◌, ℕ, List, length, sym, ◌∙◌, ⊎_elim}
use mathlib.Core.Logic.{dite}
use native.Mathlib.Decide.{ℕ_discrete}
use Rattle.laws.specs.Given.{Given}
use Rattle.laws.proofs.OptionLaws.{same_not_zero}
use Rattle.laws.proofs.GivenLaws.{given_unique}
use Rattle.terms.specs.declared.Settings.{Settings}
use Rattle.std.specs.Prelude.{◌≢◌, Option, Some, Result, Ok, Err, unwrap_or}
use Rattle.terms.specs.declared.Refusal.{Refusal}
use Rattle.terms.specs.Lists.{count}
use Rattle.terms.specs.Answers.{Answer, number_of, place_of}
use Rattle.terms.proofs.AnswersLaws.{answers_unique}
use Rattle.book.specs.declared.Reading.{Reading}
use Rattle.book.specs.Words.{bytes_after}
use Rattle.book.specs.Blocks.{blocks_for, writing_rows}
use Rattle.book.specs.Reading.{signals_of, reading_rows}
use Rattle.book.specs.Part.{HasSignal, part_start}
use Rattle.book.specs.Outcomes.{answer_of, ReadOutcome, SettingsOutcome, WriteOutcome, PartOutcome}
use Rattle.book.proofs.SoundLaws.{reading_single, sound_or_not}
use Rattle.book.proofs.PartLaws.{has_or_not}

same : {A : Type 0} {a b c : A} → a ≡ c → b ≡ c → a ≡ b
same d e = d ∙ sym e

both : {A B : Type 0} {a b c : A} {x y z : B} → (a ≡ c) × (x ≡ z) → (b ≡ c) × (y ≡ z) → (a ≡ b) × (x ≡ y)
both d e = (same d.0 e.0, same d.1 e.1)

pub read_one : {book lent : List ℕ} {r r' : Result Reading Refusal} {exit exit' : List ℕ}
    → ReadOutcome book lent r exit → ReadOutcome book lent r' exit' → (r ≡ r') × (exit ≡ exit')
read_one {book} {lent} {r} {r'} x y =
    alike r r' x y
    (answers_unique (reading_rows book (length lent)) (λ p. p ≡ signals_of book) (λ p q. same)
    (reading_single book (length lent)) (answer_of r) (answer_of r') x.answer y.answer)
  where
    alike : (r r' : Result Reading Refusal) {exit exit' : List ℕ} → ReadOutcome book lent r exit
        → ReadOutcome book lent r' exit' → answer_of r ≡ answer_of r' → (r ≡ r') × (exit ≡ exit')
    alike (Ok x) (Ok y) p q answer =
        let (settings, exit) = both p.done q.done in
        (λ i. Ok (record { settings = settings i; signals = place_of (answer i) }), exit)
    alike (Ok x) (Err e) p q answer = cc answer
    alike (Err e) (Ok y) p q answer = cc answer
    alike (Err d) (Err e) p q answer = (cc answer, same p.refused q.refused)

pub settings_of_one : {book : List ℕ} {s t : Option Settings} → SettingsOutcome book s → SettingsOutcome book t → s ≡ t
settings_of_one {book} x y =
    ⊎_elim (λ h. same (x.sound h) (y.sound h)) (λ n. same (x.unsound n) (y.unsound n)) (sound_or_not book)

pub write_one : {s : Settings} {list lent : List ℕ} {r r' : Answer} {exit exit' : List ℕ}
    → WriteOutcome s list lent r exit → WriteOutcome s list lent r' exit' → (r ≡ r') × (exit ≡ exit')
write_one {list = list} {lent} {r} {r'} x y =
    let answer = answers_unique (writing_rows list (length lent)) (λ p. p ≡ blocks_for (count list)) (λ p q. same)
    ((λ p q. same), ((λ p q. same), tt)) r r' x.answer y.answer in
    let y = rw (← answer) at y in
    let zero = ℕ_discrete (number_of r) 0 in
    (answer, dite zero (λ z. same (x.done z) (y.done z)) (λ n. same (x.refused n) (y.refused n)))

pub part_one : {book : List ℕ} {place : ℕ × ℕ} {i : ℕ} {r r' : List ℕ} {start start' : ℕ × ℕ}
    → PartOutcome book place i r start → PartOutcome book place i r' start' → (r ≡ r') × (start ≡ start')
part_one {book} {i = i} x y =
    ⊎_elim (λ h. both (x.has h) (y.has h)) (λ n. both (x.lacks n) (y.lacks n)) (has_or_not book i)

pub part_at_one : (book : List ℕ) (i : ℕ) (p q : Option ℕ)
    → Given (HasSignal book i) (λ n. n ≡ part_start i) (unwrap_or p 0) → p ≢ Some 0
    → Given (HasSignal book i) (λ n. n ≡ part_start i) (unwrap_or q 0) → q ≢ Some 0 → p ≡ q
part_at_one book i p q x some y some' =
    same_not_zero p q some some' (given_unique (HasSignal book i) (λ n. n ≡ part_start i) (λ p q. same) _ _ x y)

pub put_words_one : (list lent : List ℕ) {exit exit' : List ℕ} → exit ≡ bytes_after list lent
    → exit' ≡ bytes_after list lent → exit ≡ exit'
put_words_one list lent = same
