-- "Planning: 6, 4, 10, 7, 8, 9, 11", as a table of rows; 11 has no row: it is never given.
use Rattle.std.specs.Prelude.{◌≡◌, List, [], ◌∷◌, ◌++◌, ℕ, ◌*◌, ◌≤◌, length}
use Rattle.laws.specs.Rows.{Row}
use Rattle.laws.specs.Lowest.{lowest_row}
use Rattle.terms.specs.declared.Settings.{Settings}
use Rattle.terms.specs.Requests.{Request, PlanRoom}
use Rattle.terms.specs.Ranges.{SignalInRange, setting_row}
use Rattle.terms.specs.Lists.{count, count_row, signal_at}
use Rattle.terms.specs.Results.{result_size}
use Rattle.terms.specs.Answers.{room_row}
use Rattle.rule.specs.Rule.{Kept, Repetitions}
use Rattle.filling.specs.Filled.{needed}

-- 6 and 4, and 10: "the table before the results"
abbrev pub lent_rows : Request → (cells results : ℕ) → List Row
lent_rows x cells results =
    setting_row x.settings
    ∷ count_row x.list
    ∷ room_row (64 * x.settings.slots) cells
    ∷ room_row (result_size * count x.list) results
    ∷ []

-- 7 and 8
abbrev pub field_row : Settings → List ℕ → Row
field_row s list = lowest_row 7 (count list) (λ i. SignalInRange s (signal_at list i))

abbrev pub bound_row : Settings → List ℕ → Row
bound_row s list = lowest_row 8 (count list) (λ i. Kept s (signal_at list i))

-- 9: the slots needed, with the repetitions that the rule gives
abbrev pub Needed : Settings → List ℕ → ℕ → Type 0
Needed s list p = (R : ℕ → ℕ) × Repetitions s list R × (p ≡ needed list R)

abbrev pub slots_row : Settings → List ℕ → Row
slots_row s list =
    record { number = 9; holds = (R : ℕ → ℕ) → Repetitions s list R → needed list R ≤ s.slots; place = Needed s list }

abbrev pub signal_rows : Settings → List ℕ → List Row
signal_rows s list = field_row s list ∷ bound_row s list ∷ slots_row s list ∷ []

abbrev pub planning_rows : Request → PlanRoom → List Row
planning_rows x lent = lent_rows x (length lent.cells) (length lent.results) ++ signal_rows x.settings x.list
