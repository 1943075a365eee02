-- Laws of writing: one for each way out, by which every list has an outcome; and what a caller learns from the answer.
-- Assumes nothing.
use Rattle.std.proofs.Common.{◌≡◌, ℕ, ◌*◌, ◌<◌, ◌≤◌, List, ◌++◌, length, take, drop, refl, inl, inr, lt_of_not-le}
use Rattle.std.proofs.Common.{arith, lit≤, take_at}
use mathlib.Core.Logic.{dite}
use native.Mathlib.Decide.{dec_le}
use Rattle.laws.proofs.RowLaws.{zero_holds}
use Rattle.terms.specs.declared.Settings.{Settings}
use Rattle.std.specs.Prelude.{Ok, Err}
use Rattle.terms.specs.declared.Refusal.TheVariants.{Count, Room}
use Rattle.terms.specs.Lists.{count, CountInRange}
use Rattle.terms.specs.Answers.{Answer, number_of, place_of}
use Rattle.terms.proofs.RangesDecided.{count_or_not}
use Rattle.book.specs.Blocks.{blocks_for, book_of, writing_rows}
use Rattle.book.specs.Outcomes.{WriteOutcome}
use Rattle.book.proofs.WrittenLaws.{written_length}

-- ---- each way out

module _ (s : Settings) (l lent : List ℕ) where
  pub write_refused : (CountInRange l → ⊥) → WriteOutcome s l lent (Err Count) lent
  write_refused n = record { answer = inl (n, refl, refl); done = λ z. absurd (omega arith); refused = λ k. refl }

  module _ (right : CountInRange l) where
    pub write_short : (n : ℕ) → n ≡ 512 * blocks_for (count l) → length lent < n
        → WriteOutcome s l lent (Err (Room n)) lent
    write_short n e short =
        record {
          answer = inr (right, inl ((λ enough. omega arith), refl, e));
          done = λ z. absurd (omega arith);
          refused = λ k. refl;
        }

    pub write_done : {exit : List ℕ} (n : ℕ) → n ≡ blocks_for (count l) → 512 * n ≤ length lent
        → exit ≡ book_of s l ++ drop (512 * blocks_for (count l)) lent → WriteOutcome s l lent (Ok n) exit
    write_done n e enough book =
        record { answer = inr (right, inr (omega arith, (refl, e))); done = λ z. book; refused = λ k. absurd (k refl) }

pub write_exists : (s : Settings) (l lent : List ℕ) → (a : Answer) × (exit : List ℕ) × WriteOutcome s l lent a exit
write_exists s l lent =
    dite (count_or_not l)
    (λ right.
    dite (dec_le (512 * blocks_for (count l)) (length lent))
    (λ enough. (Ok _, _, write_done s l lent right _ refl enough refl))
    (λ short. (Err (Room _), lent, write_short s l lent right _ refl (lt_of_not-le short))))
    (λ n. (Err Count, lent, write_refused s l lent n))

-- ---- what a caller learns

pub write_gives : {s : Settings} {l lent exit : List ℕ} {a : Answer} → WriteOutcome s l lent a exit → number_of a ≡ 0
    → CountInRange l × (take (512 * place_of a) exit ≡ book_of s l)
write_gives {s} {l} {lent} {a = a} write z =
    let (rows, place) = zero_holds (λ p. p ≡ blocks_for (count l)) _ _ (writing_rows l (length lent))
    (lit≤ tt, (lit≤ tt, tt)) write.answer z in
    let size : length (book_of s l) ≡ 512 * place_of a = omega (arith, written_length s l) in
    (rows.0, rw (write.done z) (take_at (book_of s l) _ _ size))
