-- `terms::put_result` meets its contract: its words one after the other.
-- Assumes nothing.
use Rattle.std.proofs.Common.{refl}
use Rattle.laws.specs.Stored.{stored_from}
use Rattle.terms.proofs.put_result.Goals as goal

pub returns : goal.returns
unfolding stored_from
returns c =
    rw (c.put_result_word-4.ensures, c.put_result_word-3.ensures)
    (rw (c.put_result_word-2.ensures, c.put_result_word.ensures) refl)
