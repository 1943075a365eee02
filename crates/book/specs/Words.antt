-- Words and bytes by their position: a word is four bytes, the lowest first. Blocks and books are said through these.
use Rattle.std.specs.Prelude.{ℕ, zero, suc, ◌+◌, ◌*◌, ◌/◌, ◌%◌, ◌^◌, ◌<◌, cond, List, [], ◌∷◌, ◌++◌, length, drop}
use Rattle.std.specs.Prelude.{nat_le, slice_index}
use Rattle.laws.specs.Sums.{sum}

-- each number of a list is below n: a byte is below 256, a word below 2 ^ 32
abbrev pub AllBelow : ℕ → List ℕ → Type 0
AllBelow n l = (i : ℕ) → slice_index l i < n

-- f 0, f 1, and so on: the first n
unfoldable pub up_to : (ℕ → ℕ) → ℕ → List ℕ
up_to f zero = []
up_to f (suc n) = up_to f n ++ (f n ∷ [])

-- a little-endian word, from its bytes
abbrev pub word_of : (byte : ℕ → ℕ) → ℕ
word_of byte = byte 0 + 256 * byte 1 + 65536 * byte 2 + 16777216 * byte 3

-- byte i of word p of a list of bytes, and the word
abbrev pub byte_at : List ℕ → (p i : ℕ) → ℕ
byte_at b p i = slice_index b (4 * p + i)

unfoldable pub word_at : List ℕ → ℕ → ℕ
word_at b p = word_of (byte_at b p)

-- byte i of a word, the lowest being byte 0
unfoldable pub byte_of : ℕ → ℕ → ℕ
byte_of x i = x / 256 ^ i % 256

-- byte j of the words f, and the bytes of the first n of them
unfoldable pub byte_in : (ℕ → ℕ) → ℕ → ℕ
byte_in f j = byte_of (f (j / 4)) (j % 4)

unfoldable pub bytes_of : (ℕ → ℕ) → ℕ → List ℕ
bytes_of f n = up_to (byte_in f) (4 * n)

-- these over the first of lent bytes; all that lies behind stays
abbrev pub bytes_over : (ℕ → ℕ) → ℕ → List ℕ → List ℕ
bytes_over f n lent = bytes_of f n ++ drop (4 * n) lent

-- words into lent bytes: all of them, or none where the bytes are too few
unfoldable pub bytes_after : List ℕ → List ℕ → List ℕ
bytes_after words lent =
    cond (nat_le (4 * length words) (length lent)) (bytes_over (λ p. slice_index words p) (length words) lent) lent

-- "the sum of words 0 to 126 plus 1, kept to 32 bits"
unfoldable pub check_of : (ℕ → ℕ) → ℕ
check_of f = (sum f 127 + 1) % 2 ^ 32
