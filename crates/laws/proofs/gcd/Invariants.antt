-- The loop of `laws::gcd`: whatever is the greatest common divisor of x and y is that of a and b. The measure is y.
use Rattle.std.proofs.Common.{ℕ}
use Rattle.laws.specs.Divisor.{IsGcd}
use Rattle.laws.proofs.gcd.Given as goal

abbrev pub invariant-loop-y : goal.invariant-loop-y
invariant-loop-y l = (g : ℕ) → IsGcd l.x l.y g → IsGcd l.a l.b g

abbrev pub decreases-loop-y : goal.decreases-loop-y
decreases-loop-y l = l.y
