-- Divisors with their witness, and the greatest common divisor by its universal property.
use Rattle.std.specs.Prelude.{◌≡◌, ℕ, ◌*◌}

-- d divides n
abbrev pub Divides : ℕ → ℕ → Type 0
Divides d n = (m : ℕ) × (n ≡ m * d)

-- g divides both, and every number that divides both divides g
pub record IsGcd (a b g : ℕ) : Type 0 where
  pub left : Divides g a
  pub right : Divides g b
  pub greatest : (d : ℕ) → Divides d a → Divides d b → Divides d g
