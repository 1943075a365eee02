-- The seven patterns, and one test that antt computes at each of their 448 bits. What it gives is in PatternLaws: an
-- edit of the list then fails here alone.
-- Assumes nothing.
use mathlib.Core.Bool.{Bool, cond}
use mathlib.Core.List.{List, [], ◌∷◌}
use Prim.Native.Nat.{ℕ, ◌%◌, ◌^◌}
use lib.Dec.{T, eqb}
use lib.ListN.{get_or}
use Rattle.laws.proofs.Tests.{below}
use Rattle.cycles.specs.Bits.{bit}

-- the patterns as they are printed, by exponent
unfoldable pub patterns : List ℕ
patterns =
    0xffff_ffff_ffff_ffff
    ∷ 0x5555_5555_5555_5555
    ∷ 0x1111_1111_1111_1111
    ∷ 0x0101_0101_0101_0101
    ∷ 0x0001_0001_0001_0001
    ∷ 0x0000_0001_0000_0001
    ∷ 0x0000_0000_0000_0001
    ∷ []

-- bit c of the pattern of 2^e is 1 exactly where c is a multiple of 2^e
unfoldable pub right : ℕ → ℕ → Bool
right e c = eqb (bit (get_or patterns e 0) c) (cond (eqb (c % 2 ^ e) 0) 1 0)

unfoldable pub row : ℕ → Bool
row e = below (right e) 64

pub tested : T (below row 7)
unfolding right row patterns bit
tested = tt
