-- Laws of a sound book: what its rows say of each block, what an answer by them tells, and that every book has an
-- answer, so that it is sound or is not.
-- Assumes nothing.
use Rattle.std.proofs.Common.{◌≡◌, ℕ, zero, suc, ◌+◌, ◌-◌, ◌*◌, ◌%◌, ◌<◌, ◌≤◌, ◌⊎◌, List, [], ◌∷◌, length, sym, refl}
use Rattle.std.proofs.Common.{◌∙◌, inl, inr, ⊎_elim, arith, lit≤}
use mathlib.Core.Logic.Dec
use mathlib.Core.Logic.{dite}
use native.Mathlib.Decide.{ℕ_discrete, dec_le, dec_lt, map_dec}
use Rattle.laws.specs.Rows.{Hold}
use Rattle.laws.proofs.RowLaws.{numbered_join, single_join, Numbered, Single, zero_holds, not_zero_fails}
use Rattle.laws.proofs.LowestLaws.{lowest_one, lowest_not_each}
use Rattle.laws.proofs.DecidedLaws.{Decided, first_row, decided_hold, decided_row, lowest_or_each}
use Rattle.std.specs.Prelude.{Result, Ok, Err, IsErrAnd, MatchResult, Bool, true, false}
use Rattle.laws.specs.Says.{Says}
use Rattle.terms.specs.declared.Refusal.{Refusal}
use Rattle.terms.specs.declared.Refusal.TheVariants.{Length, Check, Kind, Count, Zero}
use Rattle.terms.specs.Lists.{signal_size}
use Rattle.terms.specs.Answers.{Answer, number_of, place_of, Answers, room_row}
use Rattle.terms.proofs.AnswersLaws.{Answerable, answer_exists}
use Rattle.book.specs.declared.reader.Book.{Book}
use Rattle.book.specs.declared.reader.Block.{Block}
use Rattle.book.specs.Private.{Tested, EachRight}
use Rattle.book.specs.Blocks.{blocks_for}
use Rattle.book.specs.Reading.{blocks_in, in_block, signals_of, used_in, EachBlock, FirstBlock, book_rows, reading_rows}
use Rattle.book.specs.Reading.{LengthRight, CheckRight, KindRight, CountRight, ZerosRight}
use Rattle.book.proofs.BlockLaws.{each_numbered, numbered_each, lowest_numbered}

-- ---- what the rows say

module _ (b : List ℕ) (sound : Hold (book_rows b)) where
  pub sound_length : LengthRight b
  sound_length = sound.0

  module _ (k : ℕ) (h : k < blocks_in b) where
    pub sound_check : CheckRight b k
    sound_check = numbered_each (blocks_in b) (CheckRight b) sound.1.0 k h

    pub sound_kind : KindRight b k
    sound_kind = numbered_each (blocks_in b) (KindRight b) sound.1.1.0 k h

    pub sound_share : CountRight b k
    sound_share = numbered_each (blocks_in b) (CountRight b) sound.1.1.1.0 k h

    pub sound_zeros : ZerosRight b k
    sound_zeros = numbered_each (blocks_in b) (ZerosRight b) sound.1.1.1.1.0 k h

  pub sound_count : (signals_of b ≤ 600) × (blocks_in b ≡ blocks_for (signals_of b))
  sound_count = sound_share 0 (omega (arith, sound_length.some, sound_length.whole))

-- ---- what an answer tells

first_one : (b : List ℕ) (P : ℕ → Type 0) (p q : ℕ) → FirstBlock b P p → FirstBlock b P q → p ≡ q
first_one b P p q k l = let same = lowest_one (blocks_in b) (λ i. P (i - 1)) (p + 1) (q + 1) k l in omega arith

pub book_numbered : (b : List ℕ) → Numbered (book_rows b)
book_numbered b = (lit≤ tt, (lit≤ tt, (lit≤ tt, (lit≤ tt, (lit≤ tt, tt)))))

pub book_single : (b : List ℕ) → Single (book_rows b)
book_single b =
    let zero : (p q : ℕ) → p ≡ 0 → q ≡ 0 → p ≡ q = λ p q d e. omega arith in
    (zero, (first_one b (CheckRight b), (first_one b (KindRight b), (zero, (first_one b (ZerosRight b), tt)))))

module _ (b : List ℕ) (lent : ℕ) where
  pub reading_numbered : Numbered (reading_rows b lent)
  reading_numbered =
      numbered_join (book_rows b) (room_row (signal_size * signals_of b) lent ∷ []) (book_numbered b) (lit≤ tt, tt)

  pub reading_single : Single (reading_rows b lent)
  reading_single =
      single_join (book_rows b) (room_row (signal_size * signals_of b) lent ∷ []) (book_single b)
      ((λ p q d e. omega arith), tt)

module _ (b : List ℕ) (a : Answer) (f : Answers (book_rows b) (λ p. p ≡ signals_of b) a) where
  pub judged_sound : number_of a ≡ 0 → Hold (book_rows b) × (place_of a ≡ signals_of b)
  judged_sound = zero_holds (λ p. p ≡ signals_of b) (number_of a) (place_of a) (book_rows b) (book_numbered b) f

  pub judged_unsound : (number_of a ≡ 0 → ⊥) → Hold (book_rows b) → ⊥
  judged_unsound = not_zero_fails (λ p. p ≡ signals_of b) (number_of a) (place_of a) (book_rows b) f

-- block k without the fact, and every one before it with it
first_block : (b : List ℕ) (P : ℕ → Type 0) (k : ℕ) → k < blocks_in b → (P k → ⊥) → ((j : ℕ) → j < k → P j)
    → FirstBlock b P k
first_block b P k within fails before =
    let same : k + 1 - 1 ≡ k = omega arith in
    record {
      within = omega arith;
      fails = λ p. fails (rw same at p);
      before = λ j low high. before (j - 1) (omega arith);
    }

-- a test that says a fact of each block, and a refusal that is made of what it comes to
module _ {book : Book} {b : List ℕ} (same : book.bytes.now ≡ b) (Right : List ℕ → ℕ → Type 0)
    {Test : Block → Bool → Type 0}
    (says : (x : Block) (flag : Bool) → Test x flag → Says (Right x.book.bytes.now x.number) flag)
    (Made : ℕ → Refusal → Type 0) where
  of_block : (k : ℕ) (flag : Bool) → Tested book Test k flag → (k < blocks_in b) × Says (Right b k) flag
  of_block k flag (x, is, number, test) =
      let here : x.book.bytes.now ≡ b = (λ i. (is i).bytes.now) ∙ same in
      rw (← here, ← number) (x.in_book, says x flag test)

  -- past the test each block has the fact
  pub passed : {r : Result (Unit {0}) ℕ} {m : Result (Unit {0}) Refusal} {u : Unit {0}} → EachRight book Test r
      → MatchResult r (λ x. m ≡ Ok x) (λ k. IsErrAnd m (Made k)) → m ≡ Ok u → EachBlock b (Right b)
  passed {r = Ok u} found made is = each_numbered _ (Right b) (λ k h. (of_block k true (found.each k (rw same h))).1)
  passed {r = Err k} found made is = absurd (rw is at made)

  -- a refusal is made of the first block without it
  pub refused : {r : Result (Unit {0}) ℕ} {m : Result (Unit {0}) Refusal} {e : Refusal} → EachRight book Test r
      → MatchResult r (λ x. m ≡ Ok x) (λ k. IsErrAnd m (Made k)) → m ≡ Err e
      → (k : ℕ) × (EachBlock b (Right b) → ⊥) × FirstBlock b (Right b) k × Made k e
  refused {r = Ok u} found made is = cc (made, is)
  refused {r = Err k} found made is =
      let (within, fails) = of_block k false found.first.0 in
      let first = first_block b (Right b) k within fails (λ j h. (of_block j true (found.first.1 j h)).1) in
      (k, lowest_not_each _ _ (k + 1) first, first, rw is at made)

-- ---- every book has an answer

-- each block has the fact, beside what more is decided then; or there is a first without it
tried : (b : List ℕ) (P : ℕ → Type 0) {More : Type 0} → ((k : ℕ) → Dec (P k)) → More
    → (EachBlock b P × More) ⊎ ((EachBlock b P → ⊥) × ((p : ℕ) × FirstBlock b P p))
tried b P decided more =
    ⊎_elim (λ e. inl (e, more)) (λ (i, l). let first = lowest_numbered _ _ i l in inr (first.0, (i - 1, first.1)))
    (lowest_or_each (blocks_in b) (λ i. P (i - 1)) (λ i h. decided (i - 1)))

module _ (b : List ℕ) where
  length_or_not : Dec (LengthRight b)
  length_or_not =
      map_dec (λ h. record { some = h.0; whole = h.1.0; few = h.1.1 }) (λ r. (r.some, (r.whole, r.few)))
      (Dec.and (dec_lt 0 (length b)) (Dec.and (ℕ_discrete (length b % 512) 0) (dec_le (blocks_in b) 26)))

  share_or_not : (k : ℕ) → Dec (CountRight b k)
  share_or_not zero = Dec.and (dec_le (signals_of b) 600) (ℕ_discrete (blocks_in b) (blocks_for (signals_of b)))
  share_or_not (suc k) = ℕ_discrete _ _

  zeros_or_not : (k : ℕ) → Dec (ZerosRight b k)
  zeros_or_not k =
      ⊎_elim (λ each. yes (λ w used h. numbered_each 127 Right each w h used))
      (λ f. no (λ zeros. f.1.fails (λ used. zeros (f.0 - 1) used (omega (arith, f.1.within)))))
      (lowest_or_each 127 (λ i. Right (i - 1)) (λ i h.
      dite (dec_le (used_in (signals_of b) k) (i - 1))
      (λ used. map_dec (λ z u. z) (λ right. right used) (ℕ_discrete (in_block b k (i - 1)) 0))
      (λ n. yes (λ used. absurd (n used)))))
    where
      Right : ℕ → Type 0
      Right w = used_in (signals_of b) k ≤ w → in_block b k w ≡ 0

  pub book_decided : Decided (book_rows b)
  book_decided =
      decided_row length_or_not (0, refl) (λ l.
      tried b (CheckRight b) (λ k. ℕ_discrete _ _)
      (tried b (KindRight b) (λ k. Dec.and (ℕ_discrete _ _) (ℕ_discrete _ _))
      (⊎_elim inl (λ f. inr (f.0, (0, refl)))
      (tried b (CountRight b) share_or_not (tried b (ZerosRight b) zeros_or_not tt)))))

  pub book_answerable : Answerable (book_rows b)
  book_answerable = (
    (λ p e. (Err Length, refl, sym e)),
    (
      (λ p f. (Err (Check p), refl, refl)),
      (
        (λ p f. (Err (Kind p), refl, refl)),
        ((λ p e. (Err Count, refl, sym e)), ((λ p f. (Err (Zero p), refl, refl)), tt)),
      ),
    ),
  )

  pub book_answer : (a : Answer) × Answers (book_rows b) (λ p. p ≡ signals_of b) a
  book_answer =
      let r = first_row (book_rows b) (λ p. p ≡ signals_of b) book_decided (λ h. (signals_of b, refl)) in
      answer_exists (book_rows b) (λ p. p ≡ signals_of b) r.0 r.1 book_answerable r.2

  pub sound_or_not : Hold (book_rows b) ⊎ (Hold (book_rows b) → ⊥)
  sound_or_not = dite (decided_hold (book_rows b) book_decided) inl inr
