-- The laws of `Shows` and `Mask`: a bit follows its fact, and a mask is one word.
-- Assumes nothing.
use mathlib.Core.Path.{◌≡◌, refl}
use mathlib.Core.Bool.{Bool, true, false, cond}
use Prim.Native.Nat.{ℕ, zero, suc, ◌+◌, ◌^◌, ◌<◌, min}
use native.Mathlib.Omega.{arith}
use Rattle.cycles.specs.Bits.{bit, Shows, Mask}
use Rattle.cycles.specs.Bits.Shows.{set, clear}
use Rattle.cycles.proofs.BitLaws.{bit_none, equal_by_bits}

pub shows_unique : (P : Type 0) {m n : ℕ} → Shows P m → Shows P n → m ≡ n
shows_unique P (set p) (set q) = refl
shows_unique P (set p) (clear q) = absurd (q p)
shows_unique P (clear p) (set q) = absurd (p q)
shows_unique P (clear p) (clear q) = refl

pub shows_iff : {P Q : Type 0} {n : ℕ} → (P → Q) → (Q → P) → Shows P n → Shows Q n
shows_iff f g (set p) = set (f p)
shows_iff f g (clear p) = clear (λ q. p (g q))

pub shows_never : {P : Type 0} (n : ℕ) → n ≡ 0 → (P → ⊥) → Shows P n
shows_never n e h = rw e (clear h)

-- a computed test shows its fact
pub shows_test : {P : Type 0} (b : Bool) → (b ≡ true → P) → (b ≡ false → P → ⊥) → Shows P (cond b 1 0)
shows_test true holds fails = set (holds refl)
shows_test false holds fails = clear (fails refl)

-- the fact of a bit that is 1, and the bit of a fact that holds
pub is_set : {P : Type 0} {n : ℕ} → Shows P n → n ≡ 1 → P
is_set (set p) e = p
is_set (clear p) e = let z : ⊥ = omega arith in absurd z

pub bit_of : {P : Type 0} {n : ℕ} → Shows P n → P → n ≡ 1
bit_of (set p) q = refl
bit_of (clear p) q = absurd (p q)

-- a 1 less what another bit shows
pub shows_without : {A B : Type 0} {x y : ℕ} (z : ℕ) → Shows A x → Shows B y → z + y ≡ 1 → Shows (A × (B → ⊥)) (min x z)
shows_without z (set a) (set b) e = shows_never (min 1 z) (omega arith) (λ p. p.1 b)
shows_without z (set a) (clear b) e = let one : z ≡ 1 = omega arith in rw one (set (a, b))
shows_without z (clear a) b e = shows_never (min 0 z) (omega arith) (λ p. a p.0)

-- a bit shows that it is 1
pub shows_itself : (n : ℕ) → n < 2 → Shows (n ≡ 1) n
shows_itself zero h = clear (λ e. omega arith)
shows_itself (suc n) h = let e : n ≡ 0 = omega arith in rw e (set refl)

-- no cycle has the property: the word 0
pub mask_none : (P : ℕ → Type 0) → ((c : ℕ) → P c → ⊥) → Mask 0 P
mask_none P h c l = shows_never (bit 0 c) (bit_none c) (h c)

-- a mask is one word
pub mask_unique : (P : ℕ → Type 0) (a b : ℕ) → a < 2 ^ 64 → b < 2 ^ 64 → Mask a P → Mask b P → a ≡ b
mask_unique P a b ha hb p q = equal_by_bits 64 a b ha hb (λ c l. shows_unique (P c) (p c l) (q c l))
