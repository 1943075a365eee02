-- What planning is asked and what is lent to it, as records.
use Rattle.std.specs.Prelude.{List, ℕ}
use Rattle.terms.specs.declared.Settings.{Settings}

-- settings and a list of signals
pub record Request : Type 0 where
  pub settings : Settings
  pub list : List ℕ

-- the table's cells and the results
pub record PlanRoom : Type 0 where
  pub cells : List ℕ
  pub results : List ℕ

abbrev pub request : Settings → List ℕ → Request
request s l = record { settings = s; list = l }

abbrev pub plan_room : (cells results : List ℕ) → PlanRoom
plan_room cs rs = record { cells = cs; results = rs }
