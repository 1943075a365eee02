-- What the loop of `filling::groups::Signals::starts` keeps: the groups before it begin where they are to, and nothing is
-- free in any.
-- Assumes nothing.
use Rattle.std.proofs.Common.{ℕ, ◌≡◌, ◌<◌, length}
use Rattle.terms.specs.Lists.{groups}
use Rattle.filling.specs.Runs.{start}
use Rattle.filling.specs.Private.{Holds, Holding, before, current_in}
use Rattle.filling.proofs.groups.Signals.starts.Given as goal

abbrev pub invariant-loop-g : goal.invariant-loop-g
invariant-loop-g l =
    record {
      begun : (h : ℕ) → h < l.g → Holding h (start (before l.self h)) (current_in l.groups h);
      nothing : (h : ℕ) → h < groups → Holds (λ c. 1) (current_in l.groups h).slot.free;
      needed : l.needed ≡ before l.self l.g;
      whole : length l.groups ≡ groups;
    }
