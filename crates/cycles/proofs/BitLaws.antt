-- The laws of one bit, each over the position: of `&`, `!`, `<<` and a count of trailing zeros; and words are equal by
-- their bits.
-- Assumes nothing.
use mathlib.Core.Path.{◌≡◌, refl, sym, ap, ap₂, ◌∙◌}
use Prim.Native.Nat.{ℕ, zero, suc, ◌+◌, ◌-◌, ◌*◌, ◌/◌, ◌%◌, ◌^◌, ◌<◌, min, suc-le-suc}
use native.Mathlib.Nat.{div-one, div-div-eq-div-mul, pow-succ', mod-lt, zero-lt-suc, zero-div, le_of_suc-le-suc}
use native.Mathlib.Nat.{not-suc-le-zero, lt_of_le_of_lt, min-le_left, add-zero, add-suc}
use native.Mathlib.Omega.{arith}
use lib.Arith.{digits_mod, lt-one}
use lib.Pow.{field, mod-mod-pow}
use lib.Bits.{bit_and, and_shr, and_step, shifted_half, shifted_even}
use lib.Count.{count_trailing_zeros, under}
use Rattle.cycles.specs.Bits.{bit}

-- a bit is 0 or 1
pub bit_lt : (m c : ℕ) → bit m c < 2
unfolding bit
bit_lt m c = mod-lt (m / 2 ^ c) (zero-lt-suc 1)

pub bit_first : (m : ℕ) → bit m 0 ≡ m % 2
unfolding bit
bit_first m = ap (λ (x : ℕ). x % 2) (div-one m)

pub bit_next : (m c : ℕ) → bit m (suc c) ≡ bit (m / 2) c
unfolding bit
bit_next m c = ap (λ (x : ℕ). x % 2) (ap (λ (x : ℕ). m / x) (pow-succ' 2 c) ∙ sym (div-div-eq-div-mul m 2 (2 ^ c)))

pub bit_none : (c : ℕ) → bit 0 c ≡ 0
unfolding bit
bit_none c = ap (λ (x : ℕ). x % 2) (zero-div (2 ^ c))

-- ---- `&`

pub bit_of_and : (a b c : ℕ) → bit (bit_and a b) c ≡ min (bit a c) (bit b c)
unfolding bit
bit_of_and a b c =
    let x = a / 2 ^ c in
    let y = b / 2 ^ c in
    ap (λ (z : ℕ). z % 2) (and_shr a b c ∙ and_step x y)
    ∙ digits_mod (bit_and (x / 2) (y / 2)) (lt_of_le_of_lt (min-le_left (x % 2) (y % 2)) (mod-lt x (zero-lt-suc 1)))

-- ---- `!`, of a word of k bits

pub bit_not : (k m c : ℕ) → m < 2 ^ k → c < k → bit (2 ^ k - 1 - m) c + bit m c ≡ 1
bit_not zero m c h l = absurd (not-suc-le-zero l)
bit_not (suc k) m zero h l = omega (arith, bit_first m, bit_first (2 ^ suc k - 1 - m))
bit_not (suc k) m (suc c) h l =
    let e : (2 ^ suc k - 1 - m) / 2 ≡ 2 ^ k - 1 - m / 2 = omega arith in
    rw (bit_next (2 ^ suc k - 1 - m) c, bit_next m c, e) (bit_not k (m / 2) c (omega arith) (le_of_suc-le-suc l))

-- ---- `<<`

pub bit_shifted_out : (m k c : ℕ) → c < k → bit (m * 2 ^ k) c ≡ 0
bit_shifted_out m zero c l = absurd (not-suc-le-zero l)
bit_shifted_out m (suc k) zero l = rw (bit_first, shifted_even)
bit_shifted_out m (suc k) (suc c) l = rw (bit_next, shifted_half) (bit_shifted_out m k c (le_of_suc-le-suc l))

pub bit_shifted : (m k j : ℕ) → bit (m * 2 ^ k) (j + k) ≡ bit m j
bit_shifted m zero j = ap₂ bit (omega arith) (add-zero j)
bit_shifted m (suc k) j = rw (add-suc, bit_next, shifted_half) (bit_shifted m k j)

-- the bits below w are those of the w lowest
pub bit_kept : (x w c : ℕ) → c < w → bit (x % 2 ^ w) c ≡ bit x c
unfolding bit
bit_kept x w c l =
    let e : w ≡ (w - c - 1 + 1) + c = omega arith in rw (e, field) (mod-mod-pow (x / 2 ^ c) (w - c - 1) 1)

-- ---- equal by bits

pub equal_by_bits : (k a b : ℕ) → a < 2 ^ k → b < 2 ^ k → ((c : ℕ) → c < k → bit a c ≡ bit b c) → a ≡ b
equal_by_bits zero a b ha hb h = lt-one ha ∙ sym (lt-one hb)
equal_by_bits (suc k) a b ha hb h =
    let higher = equal_by_bits k (a / 2) (b / 2) (omega arith) (omega arith)
    (λ c l. rw (bit_next a c, bit_next b c) at (h (suc c) (suc-le-suc l))) in
    omega (arith, higher, rw (bit_first a, bit_first b) at (h 0 (omega arith)))

-- ---- the trailing zeros of the k lowest bits: each bit before their count is 0, and the one at it, one of the k, is 1

first_zeros : (n r t c : ℕ) → n % 2 ≡ r → ((d : ℕ) → d < t → bit (n / 2) d ≡ 0) → c < under r t → bit n c ≡ 0
first_zeros n zero t zero e zeros l = bit_first n ∙ e
first_zeros n zero t (suc c) e zeros l = bit_next n c ∙ zeros c (le_of_suc-le-suc l)
first_zeros n (suc r) t c e zeros l = absurd (not-suc-le-zero l)

pub bit_before : (k n c : ℕ) → c < count_trailing_zeros k n → bit n c ≡ 0
unfolding count_trailing_zeros
bit_before zero n c l = absurd (not-suc-le-zero l)
bit_before (suc k) n c l = first_zeros n (n % 2) (count_trailing_zeros k (n / 2)) c refl (bit_before k (n / 2)) l

first_one : (k n r t : ℕ) → n % 2 ≡ r → (t < k → bit (n / 2) t ≡ 1) → under r t < suc k → bit n (under r t) ≡ 1
first_one k n zero t e one l = bit_next n t ∙ one (le_of_suc-le-suc l)
first_one k n (suc r) t e one l = bit_first n ∙ omega arith

pub bit_at : (k n : ℕ) → count_trailing_zeros k n < k → bit n (count_trailing_zeros k n) ≡ 1
unfolding count_trailing_zeros
bit_at zero n l = absurd (not-suc-le-zero l)
bit_at (suc k) n l = first_one k n (n % 2) (count_trailing_zeros k (n / 2)) refl (bit_at k (n / 2)) l
