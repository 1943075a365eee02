-- `cycles::pattern` meets its contract: the exponent is the count of trailing zeros, and the table has its pattern.
-- Assumes nothing.
use Rattle.std.proofs.Common.{arith}
use Rattle.cycles.proofs.MaskLaws.{mask_none}
use Rattle.cycles.proofs.PatternLaws.{exponent_zeros, pattern_of}
use Rattle.cycles.proofs.Patterns.{patterns}
use Rattle.cycles.proofs.pattern.Goals as goal

pub bounds-repetition : goal.bounds-repetition
bounds-repetition c =
    let seven = c.if-is_repetition.ensures in
    omega (arith, exponent_zeros seven, seven)

pub returns-then-is_repetition : goal.returns-then-is_repetition
unfolding patterns
returns-then-is_repetition c = pattern_of c.if-is_repetition.ensures

pub returns-else-is_repetition : goal.returns-else-is_repetition
returns-else-is_repetition c = mask_none _ (λ k m. c.if-is_repetition.ensures m.repetition)
