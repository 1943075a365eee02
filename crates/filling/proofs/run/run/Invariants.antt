-- What the loop of `filling::run::run` keeps: the frames before it, in the order of filling, are placed and shown; and
-- what is known of the next. Assumes nothing.
use Rattle.std.proofs.Common.{◌≡◌, ◌<◌, length, get_or}
use Rattle.terms.specs.Lists.{count}
use Rattle.filling.proofs.Putting.{nobody}
use Rattle.filling.proofs.FillLoop.{Filling, AtFrame}
use Rattle.filling.proofs.run.run.Given as goal

abbrev pub invariant-loop-f : goal.invariant-loop-f
invariant-loop-f l =
    record {
      filling : Filling l.s l.signals l.initial.cells l.initial.results l.cells l.results l.groups l.f-index;
      counted : l.m ≡ count l.signals.list.now;
      next :
          l.f-index < length l.f-items → AtFrame l.s l.signals l.initial.cells l.initial.results l.cells l.results
          l.groups l.f-index (get_or l.f-items l.f-index nobody);
    }
