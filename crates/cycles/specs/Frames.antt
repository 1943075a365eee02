-- The cycles that a pattern and a frame name: "it starts again every R cycles".
use Rattle.std.specs.Prelude.{◌≡◌, ℕ, ◌+◌, ◌*◌, ◌<◌}
use Rattle.laws.specs.Divisor.{Divides}
use Rattle.terms.specs.declared.Frame.{Frame}
use Rattle.terms.specs.Ranges.{Repetition}

-- cycle c is a multiple of the repetition R
pub record Multiple (R c : ℕ) : Type 0 where
  pub repetition : Repetition R
  pub multiple : Divides R c

-- a frame of repetition R and base b goes out in cycle c: its base, or a whole number of repetitions after it
pub record Names (R b c : ℕ) : Type 0 where
  pub repetition : Repetition R
  pub base : b < R
  pub again : (k : ℕ) × (c ≡ b + k * R)

-- frame f goes out in slot k of cycle c: "the cycles that its base and repetition name"
abbrev pub Sends : Frame → (k c : ℕ) → Type 0
Sends f k c = (f.slot ≡ k) × Names f.repetition f.base c
