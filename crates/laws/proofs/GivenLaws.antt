-- Laws of what a routine gives that answers 0 outside its domain: how each answer is shown, and that it is the only one.
use mathlib.Core.Path.{◌≡◌, refl}
use mathlib.Core.Logic.{dite}
use Prim.Native.Nat.{ℕ}
use native.Mathlib.Decide.{ℕ_discrete}
use native.Mathlib.Omega.{arith}
use Rattle.laws.specs.Given.{Given}

module _ (P : Type 0) (Q : ℕ → Type 0) where
  pub given_inside : (r : ℕ) → P → Q r → Given P Q r
  given_inside r v q = record { inside = λ h. q; outside = λ n. absurd (n v) }

  pub given_outside : (P → ⊥) → Given P Q 0
  given_outside n = record { inside = λ v. absurd (n v); outside = λ m. refl }

  pub given_unique : ((q r : ℕ) → Q q → Q r → q ≡ r) → (q r : ℕ) → Given P Q q → Given P Q r → q ≡ r
  given_unique unique q r g h =
      dite (ℕ_discrete q r) (λ e. e) (λ n. let out : P → ⊥ = λ v. n (unique q r (g.inside v) (h.inside v)) in
      omega (arith, g.outside out, h.outside out))
