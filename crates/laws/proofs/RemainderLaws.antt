-- Laws of remainders: two numbers leave the same by g exactly where multiples of g make them equal.
use mathlib.Core.Path.{◌≡◌, ◌∙◌, sym, ap}
use Prim.Native.Nat.{ℕ, ◌+◌, ◌*◌, ◌-◌, ◌/◌, ◌%◌, ◌≤◌, ◌<◌}
use native.Mathlib.Nat.{mod-add-div', mod-lt, add-mul-mod_self_right, mod-eq_of_lt}
use native.Mathlib.Omega.{arith}

-- multiples of g make a and b equal
abbrev pub Congruent : ℕ → ℕ → ℕ → Type 0
Congruent g a b = (m n : ℕ) × (a + m * g ≡ b + n * g)

pub congruent_of : (g a b : ℕ) → a % g ≡ b % g → Congruent g a b
congruent_of g a b e = (b / g, a / g, omega (arith, e, mod-add-div' a g, mod-add-div' b g))

pub same_remainder : (g a b : ℕ) → Congruent g a b → a % g ≡ b % g
same_remainder g a b (m, n, e) =
    sym (add-mul-mod_self_right a m g) ∙ ap (λ (z : ℕ). z % g) e ∙ add-mul-mod_self_right b n g

pub splits_remainder : (g d q : ℕ) → d < g → (d + q * g) % g ≡ d
splits_remainder g d q h = add-mul-mod_self_right d q g ∙ mod-eq_of_lt h

-- a quotient rounded up: its multiple reaches a, and passes it by less than g
pub rounded_up_lem : (a g : ℕ) → 0 < g → (a ≤ (a + (g - 1)) / g * g) × ((a + (g - 1)) / g * g < a + g)
rounded_up_lem a g h = omega (arith, mod-add-div' (a + (g - 1)) g, mod-lt (a + (g - 1)) h)
