-- `cycles::cycles_of` meets its contract: a pattern shifted to the base; no cycle is named where the number is no
-- repetition or the base is not below it.
-- Assumes nothing.
use Rattle.std.proofs.Common.{arith}
use Rattle.cycles.proofs.MaskLaws.{mask_none}
use Rattle.terms.proofs.RepetitionLaws.{repetition_most}
use Rattle.cycles.proofs.OperationLaws.{shifted}
use Rattle.cycles.proofs.cycles_of.Goals as goal
use Rattle.cycles.proofs.cycles_of.Goals.{else-is_repetition-via-then-is_repetition+else-base-repetition, else-is_repetition-via-else-is_repetition}

pub overflow_shl-result : goal.overflow_shl-result
overflow_shl-result c = omega (arith, repetition_most _ c.if-is_repetition.ensures)

pub returns-then-base-repetition : goal.returns-then-base-repetition
returns-then-base-repetition c =
    shifted c.pattern.result c.if-is_repetition.ensures (omega arith) c.pattern.ensures

pub returns-else-is_repetition : goal.returns-else-is_repetition
returns-else-is_repetition c =
    elim c.else-is_repetition.branch [
      | else-is_repetition-via-then-is_repetition+else-base-repetition w ↦ mask_none _ (λ k n. omega (arith, n.base))
      | else-is_repetition-via-else-is_repetition w ↦ mask_none _ (λ k n. w.if-is_repetition.ensures n.repetition)
    ]
