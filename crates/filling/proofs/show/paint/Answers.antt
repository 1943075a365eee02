-- `filling::show::paint` meets its contract: one cell more is painted in each turn. Assumes nothing.
use Rattle.std.proofs.Common.{arith}
use Rattle.filling.proofs.ShowLaws.{painting_next, painting_all}
use Rattle.filling.proofs.show.paint.Goals as goal

pub returns-2 : goal.returns-2
returns-2 c =
    let l = c.loop-c in
    let v = l.invariant in
    painting_all _ _ _ _ _ (painting_next _ _ _ l.cells l.c v.0 v.1 c.loop-c-test.true) (omega arith)
