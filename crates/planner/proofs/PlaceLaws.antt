-- Every place that the rows of planning allow is small: at most 8,192, the cells of 128 slots.
-- Assumes nothing.
use mathlib.Core.Path.{◌≡◌}
use mathlib.Core.List.{List, []}
use Prim.Native.Nat.{ℕ, ◌≤◌}
use native.Mathlib.Omega.{arith}
use lib.ListN.{length}
use Rattle.laws.specs.Rows.{FirstRow}
use Rattle.laws.proofs.RowLaws.{place_has}
use Rattle.terms.specs.declared.Settings.{Settings}
use Rattle.terms.specs.Requests.{Request, PlanRoom}
use Rattle.terms.specs.Ranges.{setting_rows, LowestOutOfRange}
use Rattle.terms.specs.Lists.{CountInRange, count, group_of, groups}
use Rattle.filling.proofs.LoadLaws.{needed_most}
use Rattle.planner.specs.Rows.{Needed, lent_rows, signal_rows, planning_rows}

pub setting_small : (s : Settings) (w : ℕ) → LowestOutOfRange s w → w ≤ 6
setting_small s w (n, f) =
    place_has (λ p. p ≤ 6) (setting_rows s) [] (λ p. p ≡ 0) n w (omega arith) (λ h e. omega (arith, e)) f

module _ (s : Settings) (list : List ℕ) (right : CountInRange list) where
  needed_small : (p : ℕ) → Needed s list p → p ≤ 600
  needed_small p (R, found, e) = omega (arith, e, needed_most (group_of list) R (count list) groups, right.few)

  pub signals_small : (n p : ℕ) → FirstRow (signal_rows s list) (Needed s list) n p → p ≤ 600
  signals_small n p =
      place_has (λ q. q ≤ 600) (signal_rows s list) [] (Needed s list) n p
      ((λ q l. omega (arith, l, right)), λ h. ((λ q l. omega (arith, l, right)), λ k. (needed_small, λ t. tt)))
      (λ h e. needed_small p e.1)

pub planning_small : (x : Request) (l : PlanRoom) (n p : ℕ) → FirstRow (planning_rows x l) (Needed x.settings x.list) n p
    → p ≤ 8192
planning_small x l n p =
    place_has (λ q. q ≤ 8192) (lent_rows x (length l.cells) (length l.results)) (signal_rows x.settings x.list)
    (Needed x.settings x.list) n p ((λ q w. omega (arith, setting_small x.settings q w)), λ h. omega (arith, h))
    (λ h f. omega (arith, signals_small x.settings x.list h.1.0 n p f))
