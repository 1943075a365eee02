-- What the loop of `filling::show::paint` keeps: the cells of the frame's cycles before it are painted.
-- Assumes nothing.
use Rattle.filling.specs.Private.{Paintable}
use Rattle.filling.proofs.ShowLaws.{Painting}
use Rattle.filling.proofs.show.paint.Given as goal

abbrev pub invariant-loop-c : goal.invariant-loop-c
invariant-loop-c l = Painting l.f l.signal l.fn.cells l.cells l.c × Paintable l.fn.cells l.f
