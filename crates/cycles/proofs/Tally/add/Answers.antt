-- `cycles::Tally::add` meets its contract: a case of the paper's sentence at each return.
-- Assumes nothing.
use Rattle.std.proofs.Common.{arith, ℕ, ◌/◌, ◌≤◌}
use native.Mathlib.Nat.{div-le_self}
use Rattle.cycles.specs.Loads.Tallied.{added, past, other}
use Rattle.cycles.proofs.Tally.add.Goals as goal

pub returns-then-not-is_repetition : goal.returns-then-not-is_repetition
returns-then-not-is_repetition c = other c.if-not-is_repetition.ensures

-- what a frame adds is at most 64
more_most : (r : ℕ) → 64 / r ≤ 64
more_most r = div-le_self 64 r

pub returns-then-more-self : goal.returns-then-more-self
returns-then-more-self c =
    past c.if-not-is_repetition.ensures (omega (arith, more_most c.args.repetition))

pub returns : goal.returns
returns c =
    added c.if-not-is_repetition.ensures (omega (arith, more_most c.args.repetition))
