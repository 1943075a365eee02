-- `cycles::Slot::fresh` meets its contract: every bit of the full word is 1, the complement of the word 0.
-- Assumes nothing.
use Rattle.std.proofs.Common.{arith, refl}
use lib.Dec.{lit<}
use Rattle.cycles.proofs.BitLaws.{bit_not, bit_none}
use Rattle.cycles.proofs.Slot.fresh.Goals as goal

pub returns : goal.returns
returns c = record { unit = refl; free = λ k l. omega (arith, bit_not 64 0 k (lit< tt) l, bit_none k) }
