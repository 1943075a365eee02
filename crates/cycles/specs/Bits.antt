-- One bit of a word, and a word whose set bits are the cycles with a property: the language of the contracts on cycles.
use Rattle.std.specs.Prelude.{ℕ, ◌/◌, ◌%◌, ◌^◌, ◌<◌}

-- bit c of the word m, counted from the lowest: 0 or 1
unfoldable pub bit : ℕ → ℕ → ℕ
bit m c = m / 2 ^ c % 2

-- what a bit says of a fact: that it holds where the bit is 1, and that it does not where it is 0
pub data Shows (P : Type 0) : ℕ → Type 0 where
  set : P → Shows P 1
  clear : (P → ⊥) → Shows P 0

-- of the 64 cycles, the set bits of m are those with the property
abbrev pub Mask : ℕ → (ℕ → Type 0) → Type 0
Mask m P = (c : ℕ) → c < 64 → Shows (P c) (bit m c)
