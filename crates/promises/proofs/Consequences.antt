-- What follows from demand 1 alone, of any routine that keeps it: each number exactly when its row says, and 11 never.
-- Assumes nothing.
use mathlib.Core.Path.{◌≡◌, subst}
use mathlib.Core.List.{List, []}
use mathlib.Core.Logic.{◌↔◌}
use Prim.Native.Nat.{ℕ}
use native.Mathlib.Omega.{arith}
use Rattle.laws.specs.Rows.{Row, FirstRow}
use Rattle.laws.proofs.RowLaws.{one_number, holds_zero, front_number}
use Rattle.terms.specs.Requests.{Request, PlanRoom}
use Rattle.planner.specs.Rows.{Needed, planning_rows}
use Rattle.promises.specs.Calls.{Return, Routine, Always}
use Rattle.promises.specs.Demand1.{Demand1, Demand1Planning}

module _ {Asked Room : Type 0} (rows : Asked → Room → List Row) (done : Asked → ℕ → Type 0)
    (Gives : Routine Asked Room) (keeps : Demand1 rows done Gives) (x : Asked) (l : Room) (y : Return Room)
    (g : Gives x l y) where
  -- a number is given exactly when its row is the first that does not hold
  pub each_number : (n : ℕ) → (y.number ≡ n) ↔ ((p : ℕ) × FirstRow (rows x l) (done x) n p)
  each_number n = (
    (λ e. (y.place, subst (λ (n : ℕ). FirstRow (rows x l) (done x) n y.place) e (keeps.numbered x l y g))),
    λ f. one_number (rows x l) (done x) _ _ _ _ (keeps.numbered x l y g) f.1,
  )

-- number 11 is never given: no row of planning has it, and where all hold the number is 0
pub never_eleven : (Gives : Routine Request PlanRoom) → Demand1Planning Gives
    → Always Gives (λ x l y. y.number ≡ 11 → ⊥)
never_eleven Gives keeps x l y g e =
    let rows = planning_rows x l in
    let first = keeps.numbered x l y g in
    front_number (λ n. n ≡ 11 → ⊥) rows [] (Needed x.settings x.list) _ _ (omega arith)
    (λ h. omega (arith, (holds_zero (Needed x.settings x.list) _ _ rows h first).0)) first e
