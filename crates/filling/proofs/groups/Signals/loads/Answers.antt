-- `filling::groups::Signals::loads` meets its contract: each signal in turn is tallied in its group. Assumes nothing.
use Rattle.std.proofs.Common.{ℕ, ◌≡◌, ◌+◌, ◌<◌, arith, sym, subst, slice_index_or}
use lib.Seq.{length-take-le}
use Rattle.terms.specs.Lists.{count, groups}
use Rattle.cycles.specs.Loads.{Tallied}
use Rattle.filling.proofs.Gathering.{repetition_cut}
use Rattle.filling.proofs.SignalsLaws.{grouped_in}
use Rattle.filling.proofs.Tallying.{empty, tallying_none, tallying_next}
use Rattle.filling.proofs.groups.Signals.loads.Goals as goal

pub loop-i-init : goal.loop-i-init
loop-i-init c = tallying_none _ _

pub loop-i-preserved : goal.loop-i-preserved
loop-i-preserved c =
    let l = c.loop-i in
    let g = c.group_of-g in
    let words = c.args.self.repetitions.now in
    let grouped = grouped_in c.args.self in
    let counted = c.count-m.ensures in
    let word = repetition_cut words c.count-m.result l.i (omega (arith, grouped.given, counted)) c.loop-i-test.true in
    let near : g.result < groups = omega (arith, g.ensures, word.0, counted, grouped.group (1 + l.i) (omega arith)) in
    tallying_next _ _ l.loads l.i g.result c.add.result l.invariant (omega (arith, word.0, counted, grouped.right.few))
    near (sym g.ensures) (grouped.seven (1 + l.i) (omega (arith, word.0, counted)))
    (subst (λ (R : ℕ). Tallied (slice_index_or l.loads g.result empty).load R c.add.result.load) (sym word.1) c.add.ensures)

pub returns : goal.returns
returns c =
    let l = c.loop-i in
    let m = c.count-m in
    let long = length-take-le m.result c.args.self.repetitions.now (omega (arith, (grouped_in c.args.self).given, m.ensures)) in
    let all : l.i ≡ count c.args.self.list.now = omega (arith, long, m.ensures) in
    rw all at l.invariant.tallied
