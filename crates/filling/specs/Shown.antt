-- What the cells and the results show of placed frames.
use Rattle.std.specs.Prelude.{◌≡◌, ℕ, ◌+◌, ◌*◌, ◌-◌, ◌≤◌, ◌<◌, length, get_or}
use mathlib.Core.List.{List, Memᴰ}
use Rattle.laws.specs.Lowest.{Between}
use Rattle.terms.specs.declared.Settings.{Settings}
use Rattle.terms.specs.declared.SignalResult.{SignalResult}
use Rattle.terms.specs.Lists.{count, signal_at}
use Rattle.terms.specs.Results.{result_size, result_at}
use Rattle.age.specs.AgeGiven.{AgeGiven}
use Rattle.cycles.specs.Frames.{Sends}
use Rattle.filling.specs.Runs.{Placed}

-- the cell of slot k and cycle c
abbrev pub cell_of : List ℕ → (k c : ℕ) → ℕ
cell_of cells k c = get_or cells (64 * (k - 1) + c) 0

-- "Cell 64 times (k − 1) plus c, for slot k and cycle c, holds the signal's number, or 0. All 64 times n first cells
-- are written; later cells stay."
pub record CellsShow (slots : ℕ) (places : List Placed) (entry exit : List ℕ) : Type 0 where
  pub same_length : length exit ≡ length entry
  pub holds : (p : Placed) (k c : ℕ) → Memᴰ p places → c < 64 → Sends p.frame k c → cell_of exit k c ≡ p.signal
  pub empty :
      (k c : ℕ) →
      Between 1 slots k →
      c < 64 →
      ((p : Placed) → Memᴰ p places → Sends p.frame k c → ⊥) →
      cell_of exit k c ≡ 0
  pub later : (j : ℕ) → 64 * slots ≤ j → get_or exit j 0 ≡ get_or entry j 0

-- the result of a placed frame: it, and its age there
pub record ResultOf (s : Settings) (list : List ℕ) (p : Placed) (r : SignalResult) : Type 0 where
  pub frame : r.frame ≡ p.frame
  pub age : AgeGiven s (signal_at list p.signal) p.frame r.age

-- the results among words are those of placed frames
abbrev pub EachResult : Settings → List ℕ → List Placed → (word : ℕ → ℕ) → Type 0
EachResult s list places word = (p : Placed) → Memᴰ p places → ResultOf s list p (result_at word p.signal)

-- "The first 4 times m words are written; later ones stay."
pub record ResultsShow (s : Settings) (list : List ℕ) (places : List Placed) (entry exit : List ℕ) : Type 0 where
  pub same_length : length exit ≡ length entry
  pub shown : EachResult s list places (λ d. get_or exit d 0)
  pub later : (j : ℕ) → result_size * count list ≤ j → get_or exit j 0 ≡ get_or entry j 0
