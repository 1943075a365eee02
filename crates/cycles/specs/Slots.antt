-- The slot being filled, by its 64 cycles.
use Rattle.std.specs.Prelude.{◌≡◌, ℕ, ◌≤◌, ◌<◌}
use Rattle.cycles.specs.declared.Slot.{Slot}
use Rattle.cycles.specs.Bits.{bit, Mask}
use Rattle.cycles.specs.Frames.{Names}

-- cycle c of the slot is free
abbrev pub Free : Slot → ℕ → Type 0
Free s c = bit s.free c ≡ 1

-- a new slot of a unit: all 64 cycles are free
pub record Fresh (u : ℕ) (s : Slot) : Type 0 where
  pub unit : s.unit ≡ u
  pub free : (c : ℕ) → c < 64 → Free s c

-- r is the first free cycle, or 64 where none is free
pub record FirstFree (s : Slot) (r : ℕ) : Type 0 where
  pub within : r ≤ 64
  pub before : (c : ℕ) → c < r → Free s c → ⊥
  pub found : r < 64 → Free s r

-- every cycle that a frame names is free
abbrev pub AllFree : Slot → ℕ → ℕ → Type 0
AllFree s R b = (c : ℕ) → c < 64 → Names R b c → Free s c

-- the slot s with a frame's cycles taken: the unit is kept, and free is what was free and is not the frame's
pub record FrameTaken (s : Slot) (R b : ℕ) (r : Slot) : Type 0 where
  pub unit : r.unit ≡ s.unit
  pub free : Mask r.free (λ c. Free s c × (Names R b c → ⊥))
