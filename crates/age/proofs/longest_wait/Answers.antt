-- `age::longest_wait` meets its contract, by the law that takes the longest wait from the top down.
-- Assumes nothing.
use Rattle.std.proofs.Common.{arith}
use Rattle.age.proofs.AgeGivenLaws.{longest_given}
use Rattle.age.proofs.longest_wait.Goals as goal

pub returns-clause-given : goal.returns-clause-given
returns-clause-given c = longest_given c.args.limit c.args.n c.args.g (omega arith) (omega arith)
