-- Laws of divisors and of the greatest common divisor: it is unique, Euclid's step keeps it, and it is a difference
-- of multiples either way round (Bezout without signs).
use mathlib.Core.Path.{◌≡◌, refl, ap, subst}
use mathlib.Core.Bool.{Bool, true, false}
use mathlib.Core.Logic.{dite}
use Prim.Native.Nat.{ℕ, zero, suc, ◌+◌, ◌*◌, ◌-◌, ◌/◌, ◌%◌, ◌≤◌, ◌<◌}
use native.Mathlib.Nat.{mul_comm, mul-sub, mod-add-div', mod-lt, le-mul_of_pos_right, le_refl, pos_of_ne-zero}
use native.Mathlib.Decide.{ℕ_discrete}
use native.Mathlib.Omega.{arith}
use lib.Dec.{eqb}
use borrow.Author.Tests.{eqb-true, eqb-false}
use Rattle.laws.specs.Divisor.{Divides, IsGcd}
use Rattle.laws.proofs.Orders.{factors_positive}

-- a part of a sum is divided where the sum and the other part are
pub divides_rest : (d a b : ℕ) → Divides d (a + b) → Divides d a → Divides d b
divides_rest d a b (m, p) (n, q) =
    (m - n, omega (arith, mul_comm (m - n) d, mul-sub d m n, mul_comm d m, mul_comm d n))

-- a divisor of a number above 0 is above 0, and at most it
pub divisor_positive : (d n : ℕ) → Divides d n → 0 < n → 0 < d
divisor_positive d n (m, p) h = omega (arith, factors_positive m d (omega arith))

pub divisor_at_most : (d n : ℕ) → Divides d n → 0 < n → d ≤ n
divisor_at_most d n (m, p) h =
    let (some, above) = factors_positive m d (omega arith) in omega (arith, le-mul_of_pos_right d some)

pub divides_antisymmetric : (a b : ℕ) → Divides a b → Divides b a → a ≡ b
divides_antisymmetric a b p q =
    dite (ℕ_discrete a 0) (λ z. omega (arith, p.1, ap (λ (x : ℕ). p.0 * x) z))
    (λ n. let above = divisor_positive b a q (omega arith) in
    omega (arith, divisor_at_most a b p above, divisor_at_most b a q (omega arith)))

pub gcd_unique : (a b g h : ℕ) → IsGcd a b g → IsGcd a b h → g ≡ h
gcd_unique a b g h p q = divides_antisymmetric g h (q.greatest g p.left p.right) (p.greatest h q.left q.right)

-- the greatest common divisor with a number above 0 is above 0
pub gcd_positive : (a b g : ℕ) → IsGcd a b g → 0 < b → 0 < g
gcd_positive a b g p h = divisor_positive g b p.right h

pub gcd_zero : (a : ℕ) → IsGcd a 0 a
gcd_zero a = record { left = (1, omega arith); right = (0, omega arith); greatest = λ d l r. l }

pub gcd_swap : (a b g : ℕ) → IsGcd a b g → IsGcd b a g
gcd_swap a b g p = record { left = p.right; right = p.left; greatest = λ d l r. p.greatest d r l }

-- Euclid's step
pub gcd_step : (a b g : ℕ) → IsGcd b (a % b) g → IsGcd a b g
gcd_step a b g p =
    let split = mod-add-div' a b in
    let whole : Divides g a =
    (a / b * p.left.0 + p.right.0, omega (arith, p.right.1, ap (λ (z : ℕ). a / b * z) p.left.1)) in
    let rest : (d : ℕ) → Divides d a → Divides d b → Divides d (a % b) = λ d l r.
    divides_rest d (a / b * b) (a % b) (l.0, omega (arith, l.1))
    (a / b * r.0, omega (arith, ap (λ (z : ℕ). a / b * z) r.1)) in
    record { left = whole; right = p.left; greatest = λ d l r. p.greatest d r (rest d l r) }

-- g is a difference of multiples of a and b, without signs
abbrev Balance : ℕ → ℕ → ℕ → Type 0
Balance a b g = (p q r s : ℕ) × (p * a + q * b + g ≡ r * a + s * b)

balance_step : (a b g : ℕ) → Balance b (a % b) g → Balance a b g
balance_step a b g (p, q, r, s, e) =
    let by_q = ap (λ (z : ℕ). q * z) (mod-add-div' a b) in
    let by_s = ap (λ (z : ℕ). s * z) (mod-add-div' a b) in
    (q, p + s * (a / b), s, r + q * (a / b), omega arith)

-- Euclid's algorithm, with n at least b for the steps that it may take
unfoldable pub euclid : (n a b : ℕ) → ℕ
euclid zero a b = a
euclid (suc n) a b = elim (eqb b 0) [ true ↦ a | false ↦ euclid n b (a % b) ]

-- what it finds is the greatest common divisor, and a difference
abbrev Found : ℕ → ℕ → ℕ → Type 0
Found a b g = IsGcd a b g × Balance a b g

found_end : (a b : ℕ) → b ≡ 0 → Found a b a
found_end a b z = (rw z (gcd_zero a), (0, 0, 1, 0, omega arith))

found_step : (a b g : ℕ) → Found b (a % b) g → Found a b g
found_step a b g p = (gcd_step a b g p.0, balance_step a b g p.1)

euclid_finds : (n a b : ℕ) → b ≤ n → Found a b (euclid n a b)
unfolding euclid
euclid_finds zero a b h = found_end a b (omega arith)
euclid_finds (suc n) a b h = from (eqb b 0) refl (λ l. euclid_finds n b (a % b) (omega (arith, mod-lt a l)))
  where
    from : (t : Bool) → eqb b 0 ≡ t → (0 < b → Found b (a % b) (euclid n b (a % b)))
        → Found a b (elim t [ true ↦ a | false ↦ euclid n b (a % b) ])
    from true e next = found_end a b (eqb-true b 0 e)
    from false e next = found_step a b (euclid n b (a % b)) (next (pos_of_ne-zero (eqb-false b 0 e)))

pub euclid_gcd : (a b : ℕ) → IsGcd a b (euclid b a b)
euclid_gcd a b = (euclid_finds b a b (le_refl b)).0

-- a multiple of a is g more than a multiple of b
abbrev pub Ahead : ℕ → ℕ → ℕ → Type 0
Ahead a b g = (x y : ℕ) × (x * a ≡ y * b + g)

balance_of : (a b g : ℕ) → IsGcd a b g → Balance a b g
balance_of a b g p =
    subst (λ (m : ℕ). Balance a b m) (gcd_unique a b (euclid b a b) g (euclid_gcd a b) p) (euclid_finds b a b (le_refl b)).1

-- Bezout, for numbers above 0; with `gcd_swap` the other way round
pub bezout : (a b g : ℕ) → 0 < a → 0 < b → IsGcd a b g → Ahead a b g
bezout zero b g h k d = absurd (omega arith)
bezout (suc a) zero g h k d = absurd (omega arith)
bezout (suc a) (suc b) g h k d =
    let (p, q, r, s, e) = balance_of (suc a) (suc b) g d in
    (r + s * suc b + p * b, q + p * suc a + s * a, omega (arith, e))
