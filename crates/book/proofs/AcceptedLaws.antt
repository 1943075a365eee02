-- A sound book: each of its words is the word that writing makes of the settings and the list that are read from it.
-- Assumes nothing.
use Rattle.std.proofs.Common.{◌≡◌, ℕ, zero, suc, ◌+◌, ◌-◌, ◌*◌, ◌/◌, ◌%◌, ◌<◌, List, length, get_or, sym, refl, ap}
use Rattle.std.proofs.Common.{◌∙◌, arith}
use mathlib.Core.Logic.{dite}
use native.Mathlib.Decide.{dec_lt}
use Rattle.laws.specs.Rows.{Hold}
use Rattle.terms.specs.Lists.{signal_size, count, CountInRange}
use Rattle.book.specs.Words.{AllBelow, word_at}
use Rattle.book.specs.Blocks.{section_size, signals_in, blocks_for, settings_words, signal_words}
use Rattle.book.specs.Blocks.{body_word, block_word, book_word, book_of}
use Rattle.book.specs.Reading.{blocks_in, in_block, signals_of, used_in, book_rows, settings_in, list_word, list_in}
use Rattle.book.proofs.UpToLaws.{up_to_length, up_to_at, check_same}
use Rattle.book.proofs.WordLaws.{bytes_of_words}
use Rattle.book.proofs.BlockLaws.{each_at, signal_listed, body_zero, block_body, block_check}
use Rattle.book.proofs.SoundLaws.{sound_length, sound_count, sound_check, sound_kind, sound_share, sound_zeros}

-- ---- the list that is read

pub list_length : (b : List ℕ) → length (list_in b) ≡ signal_size * signals_of b
unfolding list_in
list_length b = up_to_length (list_word b) (signal_size * signals_of b)

pub list_count : (b : List ℕ) → count (list_in b) ≡ signals_of b
list_count b = omega (arith, list_length b)

pub list_at : (b : List ℕ) (i : ℕ) → i < signal_size * signals_of b → get_or (list_in b) i 0 ≡ list_word b i
unfolding list_in
list_at b i h = up_to_at (list_word b) (signal_size * signals_of b) i h

module _ (b : List ℕ) (sound : Hold (book_rows b)) where
  pub list_in_range : CountInRange (list_in b)
  list_in_range =
      record { whole = omega (arith, list_length b); few = omega (arith, list_count b, (sound_count b sound).0) }

  -- ---- its words

  -- a word of a block's own
  own : (k w : ℕ) → k < blocks_in b → w < used_in (signals_of b) k
      → in_block b k w ≡ body_word (settings_in b) (list_in b) k w
  unfolding settings_in settings_words signal_words list_word
  own k zero h v = (sound_kind b sound k h).0
  own k (suc zero) h v = (sound_kind b sound k h).1
  own zero (suc (suc w)) h v =
      each_at (λ d x. in_block b 0 (suc (suc d)) ≡ x) (settings_words (settings_in b) (count (list_in b)))
      (refl, (refl, (refl, (refl, (refl, (sym (list_count b), tt)))))) w (omega arith)
  own (suc k) (suc (suc zero)) h v =
      sound_share b sound (suc k) h ∙ ap (λ (m : ℕ). signals_in m (suc k)) (sym (list_count b))
  own (suc k) (suc (suc (suc d))) h v =
      let there : section_size * (suc k - 1) + d < signal_size * signals_of b = omega arith in
      ap (word_at b) (omega arith) ∙ sym (signal_listed (list_in b) (suc k) d (omega arith) ∙ list_at b _ there)

  body : (k : ℕ) → k < blocks_in b → (w : ℕ) → w < 127 → in_block b k w ≡ body_word (settings_in b) (list_in b) k w
  body k h w v =
      dite (dec_lt w (used_in (signals_of b) k)) (λ low. own k w h low)
      (λ high.
      sound_zeros b sound k h w (omega arith) v
      ∙ sym (body_zero (settings_in b) (list_in b) list_in_range k w (rw (list_count b) (omega arith))))

  word : (k : ℕ) → k < blocks_in b → (w : ℕ) → w < 128 → in_block b k w ≡ block_word (settings_in b) (list_in b) k w
  word k h w v =
      dite (dec_lt w 127) (λ low. body k h w low ∙ sym (block_body (settings_in b) (list_in b) k w low))
      (λ high.
      let last : w ≡ 127 = omega arith in
      rw (last, sound_check b sound k h, block_check (settings_in b) (list_in b) k) (check_same _ _ (body k h)))

  -- byte for byte, the book is what writing makes of what is read
  pub sound_written : AllBelow 256 b → book_of (settings_in b) (list_in b) ≡ b
  unfolding book_of book_word
  sound_written bytes =
      let blocks = (sound_count b sound).1 ∙ ap blocks_for (sym (list_count b)) in
      let whole : length b ≡ 4 * (128 * blocks_for (count (list_in b))) = omega (arith, (sound_length b sound).whole) in
      sym (bytes_of_words b bytes (book_word (settings_in b) (list_in b)) (128 * blocks_for (count (list_in b))) whole
      (λ p h. ap (word_at b) (omega arith) ∙ word (p / 128) (omega arith) (p % 128) (omega arith)))
