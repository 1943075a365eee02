-- The change of demand 3: bounds raised up to their periods, and signals struck.
use Rattle.std.specs.Prelude.{◌≡◌, List, ℕ, ◌%◌, ◌≤◌, ◌<◌, length}
use Rattle.terms.specs.declared.Signal.{Signal}
use Rattle.laws.specs.Lowest.{Between}
use Rattle.terms.specs.Lists.{signal_size, count, signal_at}

-- y is x with its bound raised, at most to the period
pub record RaisedSignal (x y : Signal) : Type 0 where
  pub unit : y.unit ≡ x.unit
  pub period : y.period ≡ x.period
  pub offset : y.offset ≡ x.offset
  pub size : y.size ≡ x.size
  pub raised : x.bound ≤ y.bound
  pub most : y.bound ≤ y.period

-- list' is list with some signals struck and the bounds of the others as they were or raised: signal j of list' was
-- signal `was j` of list, and the order stays
pub record Eased (list list' : List ℕ) : Type 0 where
  pub whole : length list' % signal_size ≡ 0
  pub was : ℕ → ℕ
  pub rising : (i j : ℕ) → 1 ≤ i → i < j → j ≤ count list' → was i < was j
  pub within : (j : ℕ) → Between 1 (count list') j → Between 1 (count list) (was j)
  pub raised : (j : ℕ) → Between 1 (count list') j → RaisedSignal (signal_at list (was j)) (signal_at list' j)
