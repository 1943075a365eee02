-- Words stored one after the other, for any number of them.
use Rattle.std.specs.Prelude.{List, [], ◌∷◌, ℕ, suc, ◌+◌, set}

-- the list with the words at the places `at` plus d, `at` plus d plus 1, and so on
unfoldable pub stored_from : List ℕ → (at d : ℕ) → List ℕ → List ℕ
stored_from l at d [] = l
stored_from l at d (w ∷ ws) = stored_from (set l (at + d) w) at (suc d) ws

-- from place `at` on
abbrev pub stored : List ℕ → (at : ℕ) → List ℕ → List ℕ
stored l at ws = stored_from l at 0 ws
