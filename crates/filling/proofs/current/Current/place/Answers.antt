-- `filling::current::Current::place` meets its contract: each test that fails is a frame in trouble, and past them the
-- frame is placed. Assumes nothing.
use Rattle.std.proofs.Common.{arith, refl}
use Rattle.terms.proofs.RepetitionLaws.{repetition_most}
use Rattle.filling.specs.Private.Stepped.{trouble}
use Rattle.filling.proofs.StepLaws.{not_below, not_free, frame_placed}
use Rattle.filling.proofs.current.Current.place.Goals as goal
use Rattle.filling.proofs.current.Current.place.Goals.{then-f-base-via-then-f-base, then-f-base-via-else-f-base+then-not-all_free}

pub returns-in_err-base : goal.returns-in_err-base
returns-in_err-base c u s h =
    let to = c.goes_to in
    rw c.from_residual.ensures
    (trouble
    (not_below s _ c.requires.1 to.result (to.ensures u s h) 64 c.in_err-base.ensures.first
    (repetition_most _ c.requires.1)))

pub returns-then-f-base : goal.returns-then-f-base
returns-then-f-base c u s h =
    let to = c.goes_to in
    let base = c.in_ok-base in
    trouble
    (elim c.then-f-base.branch [
      | then-f-base-via-then-f-base w ↦
          not_below s _ c.requires.1 to.result (to.ensures u s h) base.base base.ensures.first (omega arith)
      | then-f-base-via-else-f-base+then-not-all_free w ↦
          not_free s _ c.requires.1 to.result (to.ensures u s h) base.base base.ensures.first w.if-not-all_free.ensures
    ])

pub returns : goal.returns
returns c u s h =
    let to = c.goes_to in
    let base = c.in_ok-base in
    frame_placed s _ c.requires.1 to.result (to.ensures u s h) base.base base.ensures.first (omega arith)
    c.if-not-all_free.ensures _ refl c.clear.ensures
