-- What reading asks of a book, as rows of refusals over facts of its blocks; and what it gives: settings and a list.
use Rattle.std.specs.Prelude.{◌≡◌, ℕ, zero, suc, ◌+◌, ◌-◌, ◌*◌, ◌/◌, ◌%◌, ◌<◌, ◌≤◌, List, [], ◌∷◌, ◌++◌, length}
use Rattle.laws.specs.Rows.{Row}
use Rattle.laws.specs.Lowest.{EachTo, LowestWithout}
use Rattle.terms.specs.declared.Settings.{Settings}
use Rattle.terms.specs.Ranges.{settings_from}
use Rattle.terms.specs.Lists.{signal_size}
use Rattle.terms.specs.Answers.{room_row}
use Rattle.book.specs.Words.{up_to, word_at, check_of}
use Rattle.book.specs.Blocks.{kind_of, section_size, signals_in, blocks_for}

-- the blocks of a book
abbrev pub blocks_in : List ℕ → ℕ
blocks_in b = length b / 512

-- word w of block k
abbrev pub in_block : List ℕ → ℕ → ℕ → ℕ
in_block b k w = word_at b (128 * k + w)

-- the signal count m, word 7 of the settings block
abbrev pub signals_of : List ℕ → ℕ
signals_of b = in_block b 0 7

-- how many words of block k are its own
abbrev pub used_in : ℕ → ℕ → ℕ
used_in m zero = 8
used_in m (suc k) = 3 + signal_size * signals_in m (suc k)

-- ---- what is asked

-- 1: "book length is 0, not a multiple of 512, or over 26 blocks"
pub record LengthRight (b : List ℕ) : Type 0 where
  pub some : 0 < length b
  pub whole : length b % 512 ≡ 0
  pub few : blocks_in b ≤ 26

abbrev pub CheckRight : List ℕ → ℕ → Type 0
CheckRight b k = in_block b k 127 ≡ check_of (in_block b k)

abbrev pub KindRight : List ℕ → ℕ → Type 0
KindRight b k = (in_block b k 0 ≡ k) × (in_block b k 1 ≡ kind_of k)

-- the settings block has the signal count, which the number of blocks must fit; a signal block has its share
abbrev pub CountRight : List ℕ → ℕ → Type 0
CountRight b zero = (signals_of b ≤ 600) × (blocks_in b ≡ blocks_for (signals_of b))
CountRight b (suc k) = in_block b (suc k) 2 ≡ signals_in (signals_of b) (suc k)

-- all words behind a block's own, up to the check, are zero
abbrev pub ZerosRight : List ℕ → ℕ → Type 0
ZerosRight b k = (w : ℕ) → used_in (signals_of b) k ≤ w → w < 127 → in_block b k w ≡ 0

-- a fact of each block, and the first block without it: the i-th block has number i - 1
abbrev pub EachBlock : List ℕ → (ℕ → Type 0) → Type 0
EachBlock b P = EachTo (blocks_in b) (λ i. P (i - 1))

abbrev pub FirstBlock : List ℕ → (ℕ → Type 0) → ℕ → Type 0
FirstBlock b P p = LowestWithout (blocks_in b) (λ i. P (i - 1)) (p + 1)

abbrev pub block_row : (number : ℕ) → List ℕ → (ℕ → Type 0) → Row
block_row number b P = record { number = number; holds = EachBlock b P; place = FirstBlock b P }

-- 1 to 5, "each over all blocks before the next"; a sound book is one of which all hold
abbrev pub book_rows : List ℕ → List Row
book_rows b =
    record { number = 1; holds = LengthRight b; place = λ p. p ≡ 0 }
    ∷ block_row 2 b (CheckRight b)
    ∷ block_row 3 b (KindRight b)
    ∷ record { number = 4; holds = EachBlock b (CountRight b); place = λ p. p ≡ 0 }
    ∷ block_row 5 b (ZerosRight b)
    ∷ []

-- "Order when reading: 1, 2, 3, 4, 5, 10", into so many lent words
abbrev pub reading_rows : List ℕ → (lent : ℕ) → List Row
reading_rows b lent = book_rows b ++ (room_row (signal_size * signals_of b) lent ∷ [])

-- ---- what is given

-- words 2 to 6 of the settings block; and "a refusal gives five zeros"
unfoldable pub settings_in : List ℕ → Settings
settings_in b = settings_from (in_block b 0)

abbrev pub five_zeros : Settings
five_zeros = settings_from (λ w. 0)

-- word i of the list: "five words each from word 3" of each signal block
unfoldable pub list_word : List ℕ → ℕ → ℕ
list_word b i = in_block b (1 + i / section_size) (3 + i % section_size)

unfoldable pub list_in : List ℕ → List ℕ
list_in b = up_to (list_word b) (signal_size * signals_of b)
