-- `cycles::Slot::first_free` meets its contract: the trailing zeros are the cycles that are taken before the first
-- free one.
-- Assumes nothing.
use Rattle.std.proofs.Common.{arith, ap, ℕ}
use lib.Count.{trailing_le}
use Rattle.cycles.specs.Bits.{bit}
use Rattle.cycles.proofs.BitLaws.{bit_before, bit_at, bit_none}
use Rattle.cycles.proofs.Slot.first_free.Goals as goal

pub returns-then-self-eq0-clause-first : goal.returns-then-self-eq0-clause-first
returns-then-self-eq0-clause-first c =
    record {
      within = omega arith;
      before = λ k l e. omega (arith, bit_none k, ap (λ (m : ℕ). bit m k) c.if-self-eq0.true);
      found = λ l. omega arith;
    }

pub returns-else-self-eq0-clause-first : goal.returns-else-self-eq0-clause-first
returns-else-self-eq0-clause-first c =
    let free = c.args.self.free in
    record { within = trailing_le 64 _; before = λ k l e. omega (arith, bit_before 64 free k l); found = bit_at 64 _ }
