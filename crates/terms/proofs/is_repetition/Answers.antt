-- `terms::is_repetition` meets its contract: the seven are the divisors of 64.
-- Assumes nothing.
use Rattle.std.proofs.Common.{arith, ◌%◌, eqb}
use borrow.Author.Tests.{eqb-true, eqb-false}
use Rattle.laws.proofs.SaysLaws.{says}
use Rattle.terms.proofs.Seven.{divisor, repetition_divides}
use Rattle.terms.proofs.is_repetition.Goals as goal

pub returns-then-r-ne0 : goal.returns-then-r-ne0
returns-then-r-ne0 c =
    says (eqb (64 % c.args.r) 0)
    (λ e. divisor c.args.r (λ z. omega arith) (eqb-true (64 % c.args.r) 0 e))
    (λ e h. eqb-false (64 % c.args.r) 0 e (repetition_divides c.args.r h))
