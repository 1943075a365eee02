-- `age::age` meets its contract: the frames found are those of these settings, this signal and the frame's repetition.
-- Assumes nothing.
use Rattle.age.proofs.age.Goals as goal

pub returns-clause-given : goal.returns-clause-given
returns-clause-given c =
    let found = c.in_ok-of.ensures.of in
    rw found.0 at (rw found.1 at (rw found.2 at c.age.ensures.given))
