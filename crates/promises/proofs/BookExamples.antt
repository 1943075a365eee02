-- Rows and books: of what the demands say by them, one thing that satisfies it and one that does not.
-- Assumes nothing.
use mathlib.Core.Path.{◌≡◌, refl, sym, ap}
use mathlib.Core.List.{List, [], ◌∷◌, ◌++◌}
use mathlib.Core.Logic.{inl, inr}
use Prim.Native.Nat.{ℕ, ◌+◌, ◌*◌, ◌-◌, ◌<◌}
use native.Mathlib.Omega.{arith}
use lib.Dec.{lit≤}
use lib.ListN.{length, get_or, drop, replicate, get_or-replicate, length-replicate}
use Rattle.laws.specs.Rows.{FirstRow, Hold}
use Rattle.laws.proofs.RowLaws.{one_number}
use Rattle.laws.proofs.LowestLaws.{lowest_not_each}
use Rattle.laws.proofs.SumLaws.{sum_ext, sum_const}
use Rattle.book.specs.Words.{byte_at, word_at, check_of}
use Rattle.book.specs.Blocks.{writing_rows}
use Rattle.book.specs.Reading.{blocks_in, in_block, book_rows, EachBlock, FirstBlock}
use Rattle.book.specs.Reading.{LengthRight, CheckRight, KindRight, CountRight, ZerosRight}
use Rattle.book.proofs.SoundLaws.{sound_length, sound_check, sound_kind, sound_share, sound_zeros}
use Rattle.promises.specs.Demand2.{GivenBack, WrittenBack}
use Rattle.promises.proofs.Inputs.{settings, asked, case1, case1_book}
use Rattle.promises.proofs.Named.{case1_count, case1_holds}

-- ---- rows

pub hold_yes : Hold (book_rows case1_book)
hold_yes = case1_holds.sound

pub hold_no : Hold (book_rows []) → ⊥
hold_no h = omega (arith, h.0.some)

-- case 1 written into no room: 10, and 1,024 bytes needed
pub first_row_yes : FirstRow (writing_rows case1 0) (λ p. p ≡ 2) 10 1024
first_row_yes = inr (case1_count, inl ((λ h. omega (arith, h)), refl, refl))

pub first_row_no : FirstRow (writing_rows case1 0) (λ p. p ≡ 2) 4 0 → ⊥
first_row_no f = omega (arith, one_number (writing_rows case1 0) (λ p. p ≡ 2) _ _ _ _ f first_row_yes)

-- ---- what is asked of a book: that of case 1, whose block 1 has its signal, and a block of bytes that are all 1

abbrev ones : List ℕ
ones = replicate 512 1

ones_word : (w : ℕ) → w < 128 → in_block ones 0 w ≡ 16843009
unfolding word_at
ones_word w h = omega (arith, one 0 (lit≤ tt), one 1 (lit≤ tt), one 2 (lit≤ tt), one 3 (lit≤ tt))
  where
    one : (i : ℕ) → i < 4 → byte_at ones (128 * 0 + w) i ≡ 1
    one i l = get_or-replicate 512 (4 * (128 * 0 + w) + i) 1 0 (omega arith)

has_block : 1 < blocks_in case1_book
has_block = omega (arith, case1_holds.bytes)

pub length_yes : LengthRight case1_book
length_yes = sound_length case1_book hold_yes

pub length_no : LengthRight (1 ∷ []) → ⊥
length_no h = omega (arith, h.whole)

pub check_yes : CheckRight case1_book 1
check_yes = sound_check case1_book hold_yes 1 has_block

pub check_no : CheckRight ones 0 → ⊥
unfolding check_of
check_no e =
    let words = sum_ext (in_block ones 0) (λ w. 16843009) 127 (λ w l. ones_word w (omega arith)) in
    omega (arith, e, ones_word 127 (lit≤ tt), words, sum_const 16843009 127)

pub kind_yes : KindRight case1_book 1
kind_yes = sound_kind case1_book hold_yes 1 has_block

pub kind_no : KindRight ones 0 → ⊥
kind_no h = omega (arith, h.0, ones_word 0 (lit≤ tt))

pub share_yes : CountRight case1_book 1
share_yes = sound_share case1_book hold_yes 1 has_block

pub share_no : CountRight ones 0 → ⊥
share_no h = omega (arith, h.0, ones_word 7 (lit≤ tt))

pub zeros_yes : ZerosRight case1_book 1
zeros_yes = sound_zeros case1_book hold_yes 1 has_block

pub zeros_no : ZerosRight ones 0 → ⊥
zeros_no h = omega (arith, h 8 (lit≤ tt) (lit≤ tt), ones_word 8 (lit≤ tt))

one_block : blocks_in ones ≡ 1
one_block = omega (arith, length-replicate {A = ℕ} 512 1)

pub each_block_yes : EachBlock case1_book (KindRight case1_book)
each_block_yes = hold_yes.1.1.0

pub each_block_no : EachBlock ones (KindRight ones) → ⊥
each_block_no h = kind_no (h 1 (lit≤ tt, omega (arith, one_block)))

pub first_block_yes : FirstBlock ones (KindRight ones) 0
first_block_yes =
    record { within = (lit≤ tt, omega (arith, one_block)); fails = kind_no; before = λ j l h. absurd (omega (arith, l, h)) }

pub first_block_no : (p : ℕ) → FirstBlock case1_book (KindRight case1_book) p → ⊥
first_block_no p f = lowest_not_each (blocks_in case1_book) (λ i. KindRight case1_book (i - 1)) (p + 1) f each_block_yes

-- ---- what is given back

pub given_back_yes : GivenBack (asked case1) (7 ∷ 7 ∷ 7 ∷ 7 ∷ 7 ∷ 7 ∷ []) settings
    (record { number = 0; place = 1; lent = case1 ++ (7 ∷ []) })
given_back_yes = record { accepted = refl; signals = refl; settings = refl; words = refl }

-- a reader that writes over what lies behind
pub given_back_no : GivenBack (asked case1) (7 ∷ 7 ∷ 7 ∷ 7 ∷ 7 ∷ 7 ∷ []) settings
    (record { number = 0; place = 1; lent = case1 ++ (0 ∷ []) }) → ⊥
given_back_no h = omega (arith, ap (λ (l : List ℕ). get_or l 5 0) h.words)

-- the book given back, and a writer that refuses
pub written_back_yes : (l : List ℕ)
    → WrittenBack case1_book l (record { number = 0; place = 2; lent = case1_book ++ drop (length case1_book) l })
written_back_yes l = record { accepted = refl; blocks = sym case1_holds.bytes; bytes = refl }

pub written_back_no : (lent : List ℕ) → WrittenBack case1_book [] (record { number = 4; place = 2; lent = lent }) → ⊥
written_back_no lent h = omega (arith, h.accepted)
