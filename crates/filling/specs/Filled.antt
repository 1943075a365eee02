-- "Filling the table": the slots needed, and where each frame is placed. Frames go by rising repetition, each into the slots of its
-- group, which begin behind those that the groups before need; that this is unit by unit what 01 says is `FillingShown`.
use Rattle.std.specs.Prelude.{cond, List, [], ◌∷◌, ℕ, zero, suc, ◌+◌, ◌*◌, ◌/◌, eqb}
use Rattle.laws.specs.Sums.{sum, same}
use Rattle.terms.specs.Lists.{count, group_of, groups}
use Rattle.cycles.specs.Loads.{slots_for}
use Rattle.filling.specs.declared.UnitFrame.{UnitFrame}
use Rattle.filling.specs.Ordered.{ordered}
use Rattle.filling.specs.Runs.{Placed, State, start, placed, after}

-- "Slots needed by a unit: the sum of 64/R over its signals, divided by 64, rounded up. Slots used: the sum over units."
abbrev pub group_load : (group R : ℕ → ℕ) → (m g : ℕ) → ℕ
group_load group R m g = sum (λ i. same (group (1 + i)) g * (64 / R (1 + i))) m

-- the slots of the groups below g
abbrev pub slots_before : (group R : ℕ → ℕ) → (m g : ℕ) → ℕ
slots_before group R m g = sum (λ h. slots_for (group_load group R m h)) g

abbrev pub needed : List ℕ → (ℕ → ℕ) → ℕ
needed list R = slots_before (group_of list) R (count list) groups

-- the frames of the n signals from i on, by place in the list
unfoldable pub frames_from : (R : ℕ → ℕ) → (n i : ℕ) → List UnitFrame
frames_from R zero i = []
frames_from R (suc n) i = record { signal = i; repetition = R i } ∷ frames_from R n (suc i)

-- the states of the groups, with that of group g changed
abbrev pub changed : (ℕ → State) → ℕ → State → ℕ → State
changed states g s h = cond (eqb h g) s (states h)

-- each frame in turn is placed in the slots of its group
unfoldable pub fill_from : (group : ℕ → ℕ) → (ℕ → State) → List UnitFrame → List Placed
fill_from group states [] = []
fill_from group states (f ∷ fs) =
    placed (states (group f.signal)) f
    ∷ fill_from group (changed states (group f.signal) (after (states (group f.signal)) f)) fs

-- "Units with a signal go in rising number. .. The unit begins with a new slot, the lowest unused": behind those of the units before
abbrev pub filled : List ℕ → (ℕ → ℕ) → List Placed
filled list R =
    fill_from (group_of list) (λ g. start (slots_before (group_of list) R (count list) g)) (ordered (frames_from R (count list) 1))
