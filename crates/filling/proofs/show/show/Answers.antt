-- `filling::show::show` meets its contract: the age of the frame, its result put and its cells painted.
-- Assumes nothing.
use Rattle.std.proofs.Common.{refl}
use Rattle.filling.proofs.show.show.Goals as goal

pub returns : goal.returns
returns c =
    let given = rw (c.signal_at.ensures, ← c.unwrap_or-age.ensures) at c.age.ensures.given in
    record {
      painted = c.paint.ensures;
      resulted =
          record {
            result = record { frame = c.args.f; age = c.unwrap_or-age.result };
            right = record { frame = refl; age = given };
            put = c.put_result.ensures;
          };
    }
