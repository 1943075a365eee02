-- For private contracts alone: a fact at each of a row of numbers that lie a step apart.
use Rattle.std.specs.Prelude.{ℕ, ◌+◌, ◌*◌, ◌<◌}

-- P at n, n + step and so on, count numbers in all
abbrev pub Along : (ℕ → Type 0) → (n step count : ℕ) → Type 0
Along P n step count = (j : ℕ) → j < count → P (n + j * step)
