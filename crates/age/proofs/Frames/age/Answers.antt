-- `age::Frames::age` meets its contract: the wait given makes the age. Assumes nothing.
use Rattle.std.proofs.Common.{rules}
use Rattle.laws.proofs.GivenLaws.{given_inside}
use Rattle.age.specs.AgeGiven.{frame_in, InRange}
use Rattle.age.proofs.FramesLaws.{wait_age}
use Rattle.age.proofs.Frames.age.Goals as goal

pub returns-clause-given : goal.returns-clause-given
returns-clause-given c =
    let p = c.args.self in
    let r : InRange p.settings p.signal (frame_in c.args.slot p.repetition c.args.base) = search rules in
    given_inside _ _ _ r (wait_age p c.args.slot c.args.base r _ (search rules))
