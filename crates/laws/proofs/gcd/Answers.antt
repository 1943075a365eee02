-- `laws::gcd` meets its contract. Assumes nothing.
use Rattle.std.proofs.Common.{◌≡◌, arith}
use Rattle.laws.proofs.DivisorLaws.{gcd_step, gcd_zero}
use Rattle.laws.proofs.gcd.Goals as goal

pub loop-y-preserved : goal.loop-y-preserved
loop-y-preserved c = λ g p. c.loop-y.invariant g (gcd_step c.loop-y.x c.loop-y.y g p)

pub returns : goal.returns
returns c =
    let ended : c.loop-y.y ≡ 0 = omega arith in
    c.loop-y.invariant _ (rw ended (gcd_zero c.loop-y.x))
