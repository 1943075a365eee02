-- The cycles of a slot: how often each is taken. A cycle is free where that is 0, and there is no clash where it is at most 1.
use Rattle.std.specs.Prelude.{cond, ℕ, zero, suc, ◌%◌, eqb}
use Rattle.laws.specs.Sums.{same}

abbrev pub Cycles : Type 0
Cycles = ℕ → ℕ

-- how often a frame of repetition R and base b takes cycle c: once where c leaves b when divided by R
abbrev pub takes : (R b : ℕ) → Cycles
takes R b c = same b (c % R)

-- of the n cycles from c on the first that is free, or c + n
unfoldable pub seek : Cycles → ℕ → ℕ → ℕ
seek cycles zero c = c
seek cycles (suc n) c = cond (eqb (cycles c) 0) c (seek cycles n (suc c))

-- the first free cycle, or 64
unfoldable pub first_free : Cycles → ℕ
first_free cycles = seek cycles 64 0
