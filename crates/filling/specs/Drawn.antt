-- Tables of ANY frames, not the planner's own: drawn rightly, and the slots that they use; and "Filling the table" sentence by
-- sentence, of frames that are shown.
use Rattle.std.specs.Prelude.{◌≡◌, ◌⊎◌, ℕ, ◌+◌, ◌≤◌, ◌<◌, min}
use Rattle.laws.specs.Lowest.{Between}
use Rattle.laws.specs.Sums.{sum, same}
use Rattle.terms.specs.declared.Frame.{Frame}
use Rattle.terms.specs.Ranges.{FrameInRange}
use Rattle.cycles.specs.Frames.{Sends}

-- each of m signals has one frame, `frame i`, in the slots 1 to n
pub record Drawn (n m : ℕ) (group : ℕ → ℕ) (frame : ℕ → Frame) : Type 0 where
  pub frames : (i : ℕ) → Between 1 m i → FrameInRange n (frame i)
  -- collision-free: no two frames share a cell
  pub apart : (i j k c : ℕ) → Between 1 m i → Between 1 m j → c < 64 → Sends (frame i) k c → Sends (frame j) k c → i ≡ j
  -- one unit to a slot: "The unit begins with a new slot"
  pub one_group : (i j : ℕ) → Between 1 m i → Between 1 m j → (frame i).slot ≡ (frame j).slot → group i ≡ group j

-- 1 where slot k has the frame of one of m signals, else 0; and how many of the slots 1 to n have one
abbrev pub slot_used : (m : ℕ) → (ℕ → Frame) → ℕ → ℕ
slot_used m frame k = min 1 (sum (λ i. same (frame (1 + i)).slot k) m)

abbrev pub slots_used : (n m : ℕ) → (ℕ → Frame) → ℕ
slots_used n m frame = sum (λ k. slot_used m frame (1 + k)) n

-- frame i goes before frame j: "The frames of a unit go by rising repetition, equal ones by place in the list."
abbrev pub Before : (group : ℕ → ℕ) → (ℕ → Frame) → (i j : ℕ) → Type 0
Before group frame i j =
    (group i ≡ group j)
    × (((frame i).repetition < (frame j).repetition) ⊎ (((frame i).repetition ≡ (frame j).repetition) × (i < j)))

-- cycle c of slot k is in use by the frame of a signal
abbrev pub InUse : (m : ℕ) → (ℕ → Frame) → (k c : ℕ) → Type 0
InUse m frame k c = (j : ℕ) × Between 1 m j × Sends (frame j) k c

pub record FillingShown (m : ℕ) (group : ℕ → ℕ) (frame : ℕ → Frame) : Type 0 where
  -- "Units with a signal go in rising number." "The unit begins with a new slot, ..
  pub units : (i j : ℕ) → Between 1 m i → Between 1 m j → group i < group j → (frame i).slot < (frame j).slot
  -- .. the lowest unused": no slot before a used one is unused
  pub lowest : (i k : ℕ) → Between 1 m i → Between 1 (frame i).slot k → (j : ℕ) × Between 1 m j × ((frame j).slot ≡ k)
  -- "A frame goes to the current slot .. else the next slot is begun": never to one before those of the frames before it
  pub onward : (i j : ℕ) → Between 1 m i → Between 1 m j → Before group frame i j → (frame i).slot ≤ (frame j).slot
  -- ".. while that has a free cycle": a slot that a later frame of its unit has left is full
  pub full :
      (i j c : ℕ) →
      Between 1 m i →
      Between 1 m j →
      Before group frame i j →
      (frame i).slot < (frame j).slot →
      c < 64 →
      InUse m frame (frame i).slot c
  -- ".. with the first free cycle as its base": those below are taken by frames before it
  pub first_free :
      (i c : ℕ) →
      Between 1 m i →
      c < (frame i).base →
      (j : ℕ) × Between 1 m j × Before group frame j i × Sends (frame j) (frame i).slot c
