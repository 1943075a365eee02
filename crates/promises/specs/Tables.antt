-- A table of ANY frames, not the planner's own, and how many slots are shown in use.
use Rattle.std.specs.Prelude.{List, ℕ, ◌+◌, min}
use Rattle.laws.specs.Lowest.{EachTo}
use Rattle.laws.specs.Sums.{sum}
use Rattle.terms.specs.declared.Settings.{Settings}
use Rattle.terms.specs.declared.Frame.{Frame}
use Rattle.terms.specs.Lists.{count, signal_at, group_of}
use Rattle.rule.specs.Rule.{Keeps, segment}
use Rattle.filling.specs.Drawn.{Drawn}
use Rattle.filling.specs.Shown.{cell_of}

-- each signal i has one frame, `frame i`: they are drawn rightly, and their repetitions keep the bounds
pub record Table (s : Settings) (list : List ℕ) (frame : ℕ → Frame) : Type 0 where
  pub drawn : Drawn s.slots (count list) (group_of list) frame
  pub keeps : EachTo (count list) (λ i. Keeps s (signal_at list i) (segment s) (frame i).repetition)

-- how many of the slots 1 to n have a nonzero cell
abbrev pub slots_shown : ℕ → List ℕ → ℕ
slots_shown n cells = sum (λ k. min 1 (sum (cell_of cells (1 + k)) 64)) n
