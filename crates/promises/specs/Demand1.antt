-- Demand 1: "Every list, setting and book gets a plan or a numbered refusal; nobody checks beforehand; a refusal changes no
-- lent cell or byte." Of a routine, said by what it `Gives`, that is asked things in the order of its `rows`.
use Rattle.std.specs.Prelude.{◌≡◌, List, ℕ, length}
use Rattle.laws.specs.Rows.{Row, FirstRow}
use Rattle.terms.specs.declared.Settings.{Settings}
use Rattle.terms.specs.Requests.{Request, PlanRoom}
use Rattle.terms.specs.Lists.{count}
use Rattle.book.specs.Blocks.{blocks_for, writing_rows}
use Rattle.book.specs.Reading.{signals_of, settings_in, list_in, reading_rows}
use Rattle.planner.specs.Rows.{Needed, planning_rows}
use Rattle.editor.specs.Rows.{editor_rows}
use Rattle.promises.specs.Calls.{Return, Routine, Always}

pub record Demand1
    {Asked Room : Type 0}
    (rows : Asked → Room → List Row)
    (done : Asked → ℕ → Type 0)
    (Gives : Routine Asked Room)
    : Type 1
  where
    -- "Every list, setting and book gets ..": whatever is asked and lent, something comes back. "Nobody checks beforehand":
    -- nothing is supposed of either
    pub every : (x : Asked) (l : Room) → (y : Return Room) × Gives x l y
    -- ".. a plan or a numbered refusal": the number and the place of the first row that does not hold, or 0 and what is done
    pub numbered : Always Gives (λ x l y. FirstRow (rows x l) (done x) y.number y.place)
    -- "a refusal changes no lent cell or byte"
    pub unchanged : Always Gives (λ x l y. (y.number ≡ 0 → ⊥) → y.lent ≡ l)

-- done gives "slots used (planning), signals (reading), blocks (writing)"
abbrev pub Demand1Planning : Routine Request PlanRoom → Type 1
Demand1Planning Gives = Demand1 planning_rows (λ x. Needed x.settings x.list) Gives

abbrev pub Demand1Editor : Routine (List ℕ) (List ℕ) → Type 1
Demand1Editor Gives = Demand1 (λ book l. editor_rows book (length l)) (λ book. Needed (settings_in book) (list_in book)) Gives

abbrev pub Demand1Writing : Routine Request (List ℕ) → Type 1
Demand1Writing Gives = Demand1 (λ x l. writing_rows x.list (length l)) (λ x p. p ≡ blocks_for (count x.list)) Gives

abbrev pub Demand1Reading : (Settings → Routine (List ℕ) (List ℕ)) → Type 1
Demand1Reading Gives =
    Demand1 (λ book l. reading_rows book (length l)) (λ book p. p ≡ signals_of book) (λ book l y. (s : Settings) × Gives s book l y)
