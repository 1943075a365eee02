-- Facts about finitely many numbers: a test that antt computes at each number below a bound, and the law that
-- turns it into the fact at each.
use mathlib.Core.Bool.{Bool, true, false}
use mathlib.Core.Path.{sym, subst}
use mathlib.Core.Logic.{⊎_elim, dite}
use Prim.Native.Nat.{ℕ, zero, suc, ◌<◌}
use native.Mathlib.Decide.{ℕ_discrete}
use native.Mathlib.Omega.{arith}
use native.Mathlib.Nat.{not-suc-le-zero, eq-or-lt_of_le, le_of_suc-le-suc, suc_inj}
use lib.Dec.{T}
use Rattle.laws.specs.Says.{Says}

abbrev pub both : Bool → Bool → Bool
both true b = b
both false b = false

pub both_left : (a b : Bool) → T (both a b) → T a
both_left true b t = tt
both_left false b t = t

pub both_right : (a b : Bool) → T (both a b) → T b
both_right true b t = t
both_right false b t = absurd t

-- the test passes at each number below n
abbrev pub below : (ℕ → Bool) → ℕ → Bool
below f zero = true
below f (suc n) = both (f n) (below f n)

pub at : (f : ℕ → Bool) (n : ℕ) → T (below f n) → (k : ℕ) → k < n → T (f k)
at f zero t k h = absurd (not-suc-le-zero h)
at f (suc n) t k h =
    ⊎_elim (λ e. subst (λ (m : ℕ). T (f m)) (sym (suc_inj e)) (both_left (f n) (below f n) t))
    (λ l. at f n (both_right (f n) (below f n) t) k (le_of_suc-le-suc l))
    (eq-or-lt_of_le h)

-- a test that decides a fact at each number below n, at all of them
pub below_within : (P : ℕ → Type 0) (f : ℕ → Bool) (n : ℕ) → ((k : ℕ) → k < n → Says (P k) (f k))
    → Says ((k : ℕ) → k < n → P k) (below f n)
below_within P f zero s = λ k h. absurd (omega arith)
below_within P f (suc n) s = joined (f n) (below f n) (s n (omega arith)) (below_within P f n (λ k h. s k (omega arith)))
  where
    joined : (a b : Bool) → Says (P n) a → Says ((k : ℕ) → k < n → P k) b → Says ((k : ℕ) → k < suc n → P k) (both a b)
    joined true true p q = λ k h. dite (ℕ_discrete k n) (λ e. rw e p) (λ m. q k (omega arith))
    joined true false p q = λ all. q (λ k h. all k (omega arith))
    joined false b p q = λ all. p (all n (omega arith))

-- one that decides it at each number
pub below_says : (P : ℕ → Type 0) (f : ℕ → Bool) → ((k : ℕ) → Says (P k) (f k)) → (n : ℕ) → Says ((k : ℕ) → k < n → P k) (below f n)
below_says P f s n = below_within P f n (λ k h. s k)
