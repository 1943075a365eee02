-- The seven repetitions are the divisors of 64: one computed test each way.
-- Assumes nothing.
use mathlib.Core.Path.{◌≡◌}
use mathlib.Core.Bool.{Bool, true, cond}
use Prim.Native.Nat.{ℕ, ◌^◌, ◌%◌, ◌<◌}
use native.Mathlib.Nat.{mod-eq_of_lt}
use borrow.Author.Tests.{eq-eqb}
use native.Mathlib.Omega.{arith}
use lib.Count.{count_trailing_zeros, trailing_le}
use lib.Dec.{T, eqb, eqb→eq}
use Rattle.laws.proofs.Tests.{below, at}
use Rattle.terms.specs.Ranges.{Repetition}

-- where r is a divisor of 64, it is the power of two of its trailing zeros
power : ℕ → Bool
power r = cond (eqb (64 % r) 0) (eqb r (2 ^ count_trailing_zeros 6 r)) true

powers : T (below power 65)
unfolding power count_trailing_zeros
powers = tt

pub divisor : (r : ℕ) → (r ≡ 0 → ⊥) → 64 % r ≡ 0 → Repetition r
unfolding power
divisor r h e =
    let never : 64 < r → ⊥ = λ l. omega (arith, mod-eq_of_lt l) in
    let is = rw (eq-eqb (64 % r) 0 e) at (at power 65 powers r (omega arith)) in
    (count_trailing_zeros 6 r, trailing_le 6 r, eqb→eq r _ is)

-- each of the seven divides 64
pub repetition_divides : (r : ℕ) → Repetition r → 64 % r ≡ 0
repetition_divides r (e, h, p) = rw p (eqb→eq (64 % (2 ^ e)) 0 (at (λ d. eqb (64 % (2 ^ d)) 0) 7 tt e (omega arith)))
