-- For private contracts alone: a word stored in bytes, and what a search for a wrong block finds.
use Rattle.std.specs.Prelude.{◌≡◌, ℕ, ◌*◌, ◌<◌, Bool, true, false, List, Result, OnOk, IfErr}
use Rattle.laws.specs.Stored.{stored}
use Rattle.book.specs.declared.reader.Book.{Book}
use Rattle.book.specs.declared.reader.Block.{Block}
use Rattle.book.specs.Words.{up_to, byte_of}
use Rattle.book.specs.Reading.{blocks_in}

-- a list of bytes with x as its word p
abbrev pub with_word : List ℕ → (p x : ℕ) → List ℕ
with_word b p x = stored b (4 * p) (up_to (byte_of x) 4)

-- what a test says of block k of a book
abbrev pub Tested : Book → (Block → Bool → Type 0) → ℕ → Bool → Type 0
Tested b Test k says = (x : Block) × (x.book ≡ b) × (x.number ≡ k) × Test x says

-- a test says true of each block, or k is the first of which it says false
pub record EachRight (b : Book) (Test : Block → Bool → Type 0) (r : Result (Unit {0}) ℕ) : Type 0 where
  pub each : OnOk r ((k : ℕ) → k < blocks_in b.bytes.now → Tested b Test k true)
  pub first : IfErr r (λ k. Tested b Test k false × ((j : ℕ) → j < k → Tested b Test j true))
