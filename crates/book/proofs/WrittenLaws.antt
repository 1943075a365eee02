-- The book of given values, read: each of its words is the one that was meant, it is sound, and gives the values back.
-- Assumes nothing.
use Rattle.std.proofs.Common.{◌≡◌, ℕ, zero, suc, ◌+◌, ◌-◌, ◌*◌, ◌/◌, ◌%◌, ◌^◌, ◌<◌, List, ◌∷◌, length, get_or, take}
use Rattle.std.proofs.Common.{drop, sym, refl, ap, ◌∙◌, arith, lit<, length-take, get_or-drop, get_or-take}
use mathlib.Core.Logic.{dite}
use native.Mathlib.Decide.{dec_lt}
use Rattle.laws.specs.Rows.{Hold}
use Rattle.terms.specs.declared.Settings.{Settings}
use Rattle.terms.specs.Lists.{signal_size, count, CountInRange}
use Rattle.book.specs.Words.{AllBelow, word_at, check_of}
use Rattle.book.specs.Blocks.{AreWords, section_size, signals_in, blocks_for, settings_words, signal_words}
use Rattle.book.specs.Blocks.{body_word, block_word, book_word, book_of}
use Rattle.book.specs.Reading.{blocks_in, in_block, signals_of, book_rows, settings_in, list_word, list_in}
use Rattle.book.specs.Reading.{LengthRight, CheckRight, KindRight, CountRight, ZerosRight}
use Rattle.book.proofs.UpToLaws.{up_to_is, check_same}
use Rattle.book.proofs.WordLaws.{all_below, word_of_bytes, bytes_length}
use Rattle.book.proofs.BlockLaws.{each_at, each_numbered, signal_listed, body_zero, block_body, block_check}

below_part : (n a c : ℕ) (l : List ℕ) → 0 < n → AllBelow n l → AllBelow n (take c (drop a l))
below_part n a c l some all =
    all_below n (take c (drop a l)) some
    (λ i h.
    let low : i < c = omega (arith, length-take c (drop a l)) in
    rw (get_or-take c (drop a l) i 0 low, get_or-drop) (all (a + i)))

pub written_length : (s : Settings) (l : List ℕ) → length (book_of s l) ≡ 512 * blocks_for (count l)
unfolding book_of
written_length s l = omega (arith, bytes_length (book_word s l) (128 * blocks_for (count l)))

module _ (s : Settings) (l : List ℕ) (settings : AreWords s) (fit : AllBelow (2 ^ 32) l) (right : CountInRange l) where
  -- ---- its words are words

  body_fits : (k w : ℕ) → k < 2 ^ 32 → body_word s l k w < 2 ^ 32
  unfolding settings_words signal_words
  body_fits zero w fits =
      let block : List ℕ = 0 ∷ 1 ∷ settings_words s (count l) in
      all_below (2 ^ 32) block (lit< tt) (each_at (λ d x. x < 2 ^ 32) block (omega (arith, right.few))) w
  body_fits (suc k) zero fits = fits
  body_fits (suc k) (suc zero) fits = lit< tt
  body_fits (suc k) (suc (suc zero)) fits = omega arith
  body_fits (suc k) (suc (suc (suc w))) fits =
      below_part (2 ^ 32) (section_size * (suc k - 1)) section_size l (lit< tt) fit w

  block_fits : (k w : ℕ) → k < 2 ^ 32 → w < 128 → block_word s l k w < 2 ^ 32
  unfolding check_of
  block_fits k w fits h =
      dite (dec_lt w 127) (λ low. rw (block_body s l k w low) (body_fits k w fits))
      (λ high. let last : w ≡ 127 = omega arith in rw (last, block_check s l k) (omega arith))

  -- ---- its words, read

  written_blocks : blocks_in (book_of s l) ≡ blocks_for (count l)
  written_blocks = omega (arith, written_length s l)

  module _ (k : ℕ) (h : k < blocks_in (book_of s l)) where
    written_word : (w : ℕ) → w < 128 → in_block (book_of s l) k w ≡ block_word s l k w
    unfolding book_of book_word
    written_word w v =
        let block : (128 * k + w) / 128 ≡ k = omega arith in
        let word : (128 * k + w) % 128 ≡ w = omega arith in
        let here : book_word s l (128 * k + w) ≡ block_word s l k w = λ i. block_word s l (block i) (word i) in
        word_of_bytes (book_word s l) (128 * blocks_for (count l)) (128 * k + w) (omega (arith, written_blocks))
        (rw here (block_fits k w (omega (arith, right.few, written_blocks)) v))
        ∙ here

    written_body : (w : ℕ) → w < 127 → in_block (book_of s l) k w ≡ body_word s l k w
    written_body w v = written_word w (omega arith) ∙ block_body s l k w v

    written_check : CheckRight (book_of s l) k
    written_check =
        rw (written_word 127 (lit< tt), block_check s l k) (sym (check_same (in_block (book_of s l) k) _ written_body))

    written_kind : KindRight (book_of s l) k
    written_kind = (written_body 0 (lit< tt), written_body 1 (lit< tt))

  first : 0 < blocks_in (book_of s l)
  first = omega (arith, written_blocks)

  pub written_count : signals_of (book_of s l) ≡ count l
  unfolding settings_words
  written_count = written_body 0 first 7 (lit< tt)

  written_share : (k : ℕ) → k < blocks_in (book_of s l) → CountRight (book_of s l) k
  unfolding signal_words
  written_share zero h = (omega (arith, right.few, written_count), written_blocks ∙ ap blocks_for (sym written_count))
  written_share (suc k) h =
      written_body (suc k) h 2 (lit< tt) ∙ ap (λ (m : ℕ). signals_in m (suc k)) (sym written_count)

  written_zeros : (k : ℕ) → k < blocks_in (book_of s l) → ZerosRight (book_of s l) k
  written_zeros k h w used v = written_body k h w v ∙ body_zero s l right k w (rw written_count at used)

  -- the book of given values is sound
  pub written_sound : Hold (book_rows (book_of s l))
  written_sound =
      let b = book_of s l in
      let size : LengthRight b = omega (arith, written_length s l, right.few) in
      let checks = each_numbered _ (CheckRight b) written_check in
      let kinds = each_numbered _ (KindRight b) written_kind in
      let counts = each_numbered _ (CountRight b) written_share in
      (size, (checks, (kinds, (counts, (each_numbered _ (ZerosRight b) written_zeros, tt)))))

  -- ---- and gives the values back

  pub written_back : settings_in (book_of s l) ≡ s
  unfolding settings_in settings_words
  written_back =
      let word = written_body 0 first in
      rw (word 2 (lit< tt), word 3 (lit< tt), word 4 (lit< tt), word 5 (lit< tt), word 6 (lit< tt))

  written_listed : (i : ℕ) → i < length l → list_word (book_of s l) i ≡ get_or l i 0
  unfolding list_word
  written_listed i h =
      let k = suc (i / section_size) in
      let d = i % section_size in
      ap (word_at (book_of s l)) (omega arith)
      ∙ written_body k (omega (arith, written_blocks)) (suc (suc (suc d))) (omega arith)
      ∙ signal_listed l k d (omega arith)
      ∙ ap (λ (n : ℕ). get_or l n 0) (omega arith)

  pub written_list : list_in (book_of s l) ≡ l
  unfolding list_in
  written_list =
      let count : signal_size * signals_of (book_of s l) ≡ length l = omega (arith, written_count, right.whole) in
      rw count (sym (up_to_is (list_word (book_of s l)) (length l) l refl (λ i h. sym (written_listed i h))))
