-- Sums over the numbers below a bound, and the indicator of an equation.
use Rattle.std.specs.Prelude.{cond, ℕ, zero, suc, ◌+◌, eqb}

-- f 0 + f 1 + .. + f (n - 1)
unfoldable pub sum : (ℕ → ℕ) → ℕ → ℕ
sum f zero = 0
sum f (suc n) = sum f n + f n

-- 1 where the numbers are equal, else 0
unfoldable pub same : ℕ → ℕ → ℕ
same a b = cond (eqb a b) 1 0
