-- What a routine gives that answers 0 outside its domain.
use Rattle.std.specs.Prelude.{◌≡◌, ℕ}

-- r is as Q asks where P holds, and 0 where P does not
pub record Given (P : Type 0) (Q : ℕ → Type 0) (r : ℕ) : Type 0 where
  pub inside : P → Q r
  pub outside : (P → ⊥) → r ≡ 0
