-- `editor::plan_bytes` meets its contract: past 6 and 10 it is planning's own answer, into room enough.
-- Assumes nothing.
use Rattle.std.proofs.Common.{arith, refl, rules}
use Rattle.editor.proofs.BytesLaws.{bytes_put}
use Rattle.editor.proofs.plan_bytes.Goals as goal

pub returns : goal.returns
returns c =
    let put = rw c.count-words.ensures at c.put_planned.ensures in
    bytes_put c.args.results.now (search rules) refl (omega arith) c.requires (search rules) c.plan-planned.ensures put
