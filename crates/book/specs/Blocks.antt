-- The book of given settings and a given list, block by block, as "The book of blocks" lays it out; and what is asked
-- before it is written.
use Rattle.std.specs.Prelude.{ℕ, zero, suc, ◌+◌, ◌-◌, ◌*◌, ◌/◌, ◌%◌, ◌^◌, ◌<◌, min, cond, List, [], ◌∷◌, ◌++◌, take}
use Rattle.std.specs.Prelude.{drop, ◌==◌, slice_index}
use Rattle.laws.specs.Rows.{Row}
use Rattle.terms.specs.declared.Settings.{Settings}
use Rattle.terms.specs.Ranges.{SettingEntry, setting_table}
use Rattle.terms.specs.Lists.{signal_size, count, count_row}
use Rattle.terms.specs.Answers.{room_row}
use Rattle.book.specs.Words.{bytes_of, check_of}

-- "kind, 1 for the settings block (block 0), 2 for signal blocks (all later)"
abbrev pub kind_of : ℕ → ℕ
kind_of zero = 1
kind_of (suc k) = 2

-- "at most 24 signals" to a signal block, and their words
abbrev pub per_block : ℕ
per_block = 24

abbrev pub section_size : ℕ
section_size = signal_size * per_block

-- the signals in signal block k of a list of m: "every signal block but the last is full"
abbrev pub signals_in : ℕ → ℕ → ℕ
signals_in m k = min per_block (m - per_block * (k - 1))

-- "1 block plus m/24 rounded up"
abbrev pub blocks_for : ℕ → ℕ
blocks_for m = 1 + (m + (per_block - 1)) / per_block

abbrev pub values : List SettingEntry → List ℕ
values [] = []
values (t ∷ ts) = t.value ∷ values ts

-- what stands behind a block's number and kind: the settings in the order of their table, and the signal count
unfoldable pub settings_words : Settings → ℕ → List ℕ
settings_words s m = values (setting_table s) ++ (m ∷ [])

-- "the signals in it, then five words each"
unfoldable pub signal_words : List ℕ → ℕ → List ℕ
signal_words l k = signals_in (count l) k ∷ take section_size (drop (section_size * (k - 1)) l)

abbrev pub content_of : Settings → List ℕ → ℕ → List ℕ
content_of s l zero = settings_words s (count l)
content_of s l (suc k) = signal_words l (suc k)

-- word w of block k before the check: "unused words zero"
abbrev pub body_word : Settings → List ℕ → ℕ → ℕ → ℕ
body_word s l k w = slice_index (k ∷ kind_of k ∷ content_of s l k) w

-- word w of block k: word 127 is the check
unfoldable pub block_word : Settings → List ℕ → ℕ → ℕ → ℕ
block_word s l k w = cond (w == 127) (check_of (body_word s l k)) (body_word s l k w)

-- word p of the book, counted from its start
unfoldable pub book_word : Settings → List ℕ → ℕ → ℕ
book_word s l p = block_word s l (p / 128) (p % 128)

-- the bytes of the book
unfoldable pub book_of : Settings → List ℕ → List ℕ
book_of s l = bytes_of (book_word s l) (128 * blocks_for (count l))

-- "Writing: 4, 10", into so many lent bytes
abbrev pub writing_rows : List ℕ → (lent : ℕ) → List Row
writing_rows list lent = count_row list ∷ room_row (512 * blocks_for (count list)) lent ∷ []

-- settings that are words, as every value of the routines is
pub record AreWords (s : Settings) : Type 0 where
  pub cycle : s.cycle < 2 ^ 32
  pub slot : s.slot < 2 ^ 32
  pub slots : s.slots < 2 ^ 32
  pub packing : s.packing < 2 ^ 32
  pub payload : s.payload < 2 ^ 32
