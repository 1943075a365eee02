-- `filling::run::run` meets its contract: each frame goes where filling places it, and is shown. Assumes nothing.
use Rattle.std.proofs.Common.{arith}
use Rattle.filling.proofs.FillLoop.{frames_given, filling_none, filling_all, in_order_long, at_item}
use Rattle.filling.proofs.run.run.Goals as goal

pub frames_in_order-frames-requires : goal.frames_in_order-frames-requires
frames_in_order-frames-requires c = frames_given c.args.signals _ c.count-m.ensures

pub loop-f-init : goal.loop-f-init
loop-f-init c =
    let none = filling_none _ _ _ _ c.args.groups.now c.requires (omega arith) in
    record {
      filling = none;
      counted = c.count-m.ensures;
      next = at_item _ _ _ c.count-m.ensures c.frames_in_order-frames.ensures _ c.requires none;
    }

pub returns-in_err-frame : goal.returns-in_err-frame
returns-in_err-frame c =
    let next = c.loop-f.invariant.next c.loop-f-test.true in
    let g = c.group_of-g in
    let step = c.place.ensures g.result next.state (next.holds g.result g.ensures) in
    absurd (next.untroubled (rw c.in_err-frame.ensures.ok_part at step))

pub show-requires : goal.show-requires
show-requires c =
    let next = c.loop-f.invariant.next c.loop-f-test.true in
    let g = c.group_of-g in
    let step = c.place.ensures g.result next.state (next.holds g.result g.ensures) in
    (next.goes_on _ _ (rw c.in_ok-frame.ensures.ok_part at step) g.ensures).0

pub loop-f-preserved : goal.loop-f-preserved
loop-f-preserved c =
    let next = c.loop-f.invariant.next c.loop-f-test.true in
    let g = c.group_of-g in
    let step = c.place.ensures g.result next.state (next.holds g.result g.ensures) in
    let goes = next.goes_on _ _ (rw c.in_ok-frame.ensures.ok_part at step) g.ensures in
    let on = goes.1 c.show.new.cells c.show.new.results c.show.ensures in
    let counted = c.loop-f.invariant.counted in
    record {
      filling = on;
      counted = counted;
      next = at_item _ _ _ counted c.frames_in_order-frames.ensures _ c.requires on;
    }

pub returns : goal.returns
returns c =
    let l = c.loop-f in
    let long = in_order_long c.args.signals _ _ c.count-m.ensures c.frames_in_order-frames.ensures in
    filling_all _ _ _ _ _ c.requires l.cells l.results l.groups l.f-index l.invariant.filling
    (omega (arith, long, c.loop-f-test.false))
