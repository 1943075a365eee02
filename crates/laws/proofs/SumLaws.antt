-- The laws of sums: term by term, of a constant, of `+`, of a multiple, exchanged, of an indicator, of a repeating
-- pattern, of one term or of few among many.
-- Assumes nothing.
use mathlib.Core.Path.{◌≡◌, refl, sym, ap, ap₂, ◌∙◌}
use mathlib.Core.Logic.{◌⊎◌, inl, inr, ⊎_elim, dite}
use mathlib.Core.List.{List, [], ◌∷◌}
use Prim.Native.Nat.{ℕ, zero, suc, ◌+◌, ◌*◌, ◌-◌, ◌≤◌, ◌<◌, zero-le}
use native.Mathlib.Nat.{le_refl, le_of_eq, le_step, add-le-add, add-zero, add-suc, zero-mul, suc-mul, mul-add, mul-zero}
use native.Mathlib.Nat.{not-suc-le-zero, add_comm, add-sub_of_le}
use native.Mathlib.Decide.{ℕ_discrete, dec_le, dec_lt}
use native.Mathlib.Numerals.{add-one, one-add}
use native.Mathlib.Omega.{arith}
use borrow.Author.Tests.{eq-eqb, ne_eqb}
use Rattle.laws.specs.Sums.{sum, same}

-- the sum of f over the entries
unfoldable pub total {ℓ} : {A : Type ℓ} → (A → ℕ) → List A → ℕ
total f [] = 0
total f (x ∷ xs) = f x + total f xs

-- ---- an indicator

pub same_cases : (a b : ℕ) → ((a ≡ b) × (same a b ≡ 1)) ⊎ ((a ≡ b → ⊥) × (same a b ≡ 0))
unfolding same
same_cases a b =
    dite (ℕ_discrete a b) (λ e. inl (e, rw (eq-eqb a b e))) (λ n. inr (n, rw (ne_eqb a b n)))

pub same_equal : (a b : ℕ) → a ≡ b → same a b ≡ 1
same_equal a b e = ⊎_elim (λ h. h.1) (λ h. absurd (h.0 e)) (same_cases a b)

pub same_apart : (a b : ℕ) → (a ≡ b → ⊥) → same a b ≡ 0
same_apart a b n = ⊎_elim (λ h. absurd (n h.0)) (λ h. h.1) (same_cases a b)

pub same_one : (a b : ℕ) → 1 ≤ same a b → a ≡ b
same_one a b h = ⊎_elim (λ e. e.0) (λ e. absurd (omega (arith, e.1))) (same_cases a b)

pub same_most : (a b : ℕ) → same a b ≤ 1
same_most a b = ⊎_elim (λ e. le_of_eq e.1) (λ e. le_step (le_of_eq e.1)) (same_cases a b)

-- ---- sums below a bound

-- of no terms, and of one more, as a loop counts
pub sum_none : (f : ℕ → ℕ) → sum f 0 ≡ 0
unfolding sum
sum_none f = refl

pub sum_more : (f : ℕ → ℕ) (n : ℕ) → sum f (n + 1) ≡ sum f n + f n
unfolding sum
sum_more f n = ap (sum f) (add-one n)

module _ (f g : ℕ → ℕ) where
  pub sum_le : (n : ℕ) → ((i : ℕ) → i < n → f i ≤ g i) → sum f n ≤ sum g n
  unfolding sum
  sum_le zero h = zero-le
  sum_le (suc n) h = add-le-add (sum_le n (λ i l. h i (le_step l))) (h n (le_refl (suc n)))

  pub sum_ext : (n : ℕ) → ((i : ℕ) → i < n → f i ≡ g i) → sum f n ≡ sum g n
  unfolding sum
  sum_ext zero h = refl
  sum_ext (suc n) h = ap₂ (λ (x y : ℕ). x + y) (sum_ext n (λ i l. h i (le_step l))) (h n (le_refl (suc n)))

  pub sum_add : (n : ℕ) → sum (λ i. f i + g i) n ≡ sum f n + sum g n
  unfolding sum
  sum_add zero = refl
  sum_add (suc n) = omega (arith, sum_add n)

pub sum_const : (k n : ℕ) → sum (λ i. k) n ≡ n * k
unfolding sum
sum_const k zero = sym (zero-mul k)
sum_const k (suc n) = ap (λ (x : ℕ). x + k) (sum_const k n) ∙ sym (suc-mul n k)

-- of terms that are all 0
pub sum_zero : (f : ℕ → ℕ) (n : ℕ) → ((i : ℕ) → i < n → f i ≡ 0) → sum f n ≡ 0
sum_zero f n h = sum_ext f (λ i. 0) n h ∙ sum_const 0 n ∙ mul-zero n

pub sum_times : (k : ℕ) (f : ℕ → ℕ) (n : ℕ) → sum (λ i. k * f i) n ≡ k * sum f n
unfolding sum
sum_times k f zero = sym (mul-zero k)
sum_times k f (suc n) = ap (λ (x : ℕ). x + k * f n) (sum_times k f n) ∙ sym (mul-add k (sum f n) (f n))

pub sum_exchange : (f : ℕ → ℕ → ℕ) (m n : ℕ) → sum (λ i. sum (f i) m) n ≡ sum (λ j. sum (λ i. f i j) n) m
unfolding sum
sum_exchange f m zero = sym (sum_zero (λ j. 0) m (λ j l. refl))
sum_exchange f m (suc n) =
    ap (λ (x : ℕ). x + sum (f n) m) (sum_exchange f m n) ∙ sym (sum_add (λ j. sum (λ i. f i j) n) (f n) m)

-- the first m terms, and the n after them
pub sum_split : (f : ℕ → ℕ) (m n : ℕ) → sum f (m + n) ≡ sum f m + sum (λ i. f (m + i)) n
unfolding sum
sum_split f m zero = ap (sum f) (add-zero m) ∙ sym (add-zero (sum f m))
sum_split f m (suc n) = ap (sum f) (add-suc m n) ∙ omega (arith, sum_split f m n)

pub sum_first : (f : ℕ → ℕ) (n : ℕ) → sum f (suc n) ≡ f 0 + sum (λ i. f (suc i)) n
unfolding sum
sum_first f zero = omega arith
sum_first f (suc n) = omega (arith, sum_first f n)

-- more terms
pub sum_longer : (f : ℕ → ℕ) (m n : ℕ) → m ≤ n → sum f m ≤ sum f n
sum_longer f m n h = omega (arith, sum_split f m (n - m), ap (sum f) (add-sub_of_le h))

-- one number is equal to s
pub sum_same : (s n : ℕ) → s < n → sum (λ k. same s k) n ≡ 1
unfolding sum
sum_same s zero h = absurd (not-suc-le-zero h)
sum_same s (suc n) h =
    ⊎_elim (λ (d, e). omega (arith, e, sum_zero (λ k. same s k) n (λ k j. same_apart s k (λ q. omega arith))))
    (λ (d, e). omega (arith, sum_same s n (omega arith), e)) (same_cases s n)

-- and none other
pub sum_same_most : (s n : ℕ) → sum (λ k. same s k) n ≤ 1
sum_same_most s n =
    dite (dec_lt s n) (λ h. le_of_eq (sum_same s n h))
    (λ h. le_step (le_of_eq (sum_zero (λ k. same s k) n (λ k l. same_apart s k (λ e. omega arith)))))

-- of the numbers from 1 on
pub sum_same_from_one : (s n : ℕ) → 1 ≤ s → s ≤ n → sum (λ k. same s (1 + k)) n ≡ 1
sum_same_from_one s n low high =
    sum_ext (λ k. same s (1 + k)) (λ k. same s (suc k)) n (λ k l. ap (same s) (one-add k))
    ∙ omega (arith, sum_first (same s) n, sum_same s (suc n) (omega arith), same_apart s 0 (λ e. omega arith))

-- a pattern that repeats after R terms
pub sum_repeat : (f : ℕ → ℕ) (R : ℕ) → ((c : ℕ) → f (R + c) ≡ f c) → (m : ℕ) → sum f (m * R) ≡ m * sum f R
unfolding sum
sum_repeat f R h zero = ap (sum f) (zero-mul R) ∙ sym (zero-mul (sum f R))
sum_repeat f R h (suc m) =
    ap (sum f) (suc-mul m R ∙ add_comm (m * R) R) ∙ sum_split f R (m * R)
    ∙ ap (λ (x : ℕ). sum f R + x) (sum_ext (λ c. f (R + c)) f (m * R) (λ c l. h c) ∙ sum_repeat f R h m)
    ∙ add_comm (sum f R) (m * sum f R) ∙ sym (suc-mul m (sum f R))

-- ---- one term, or few

pub sum_term : (f : ℕ → ℕ) (n i : ℕ) → i < n → f i ≤ sum f n
unfolding sum
sum_term f n i h = omega (arith, sum_longer f (suc i) n h)

pub sum_some : (f : ℕ → ℕ) (n : ℕ) → 1 ≤ sum f n → (i : ℕ) × (i < n) × (1 ≤ f i)
unfolding sum
sum_some f zero h = absurd (not-suc-le-zero h)
sum_some f (suc n) h =
    dite (dec_le 1 (f n)) (λ l. (n, le_refl (suc n), l)) (λ l.
    let (i, h, p) = sum_some f n (omega arith) in (i, le_step h, p))

-- the term with which a sum reaches k
pub sum_reaches : (f : ℕ → ℕ) (n k : ℕ) → 1 ≤ k → k ≤ sum f n → (i : ℕ) × (i < n) × (sum f i < k) × (k ≤ sum f i + f i)
unfolding sum
sum_reaches f zero k l h = absurd (omega arith)
sum_reaches f (suc n) k l h =
    dite (dec_lt (sum f n) k) (λ b. (n, le_refl (suc n), b, h)) (λ b.
    let (i, h, p, q) = sum_reaches f n k l (omega arith) in (i, le_step h, p, q))

-- of terms up to t, of which at most one is not 0
pub sum_one : (f : ℕ → ℕ) (n t : ℕ) → ((i : ℕ) → i < n → f i ≤ t)
    → ((i j : ℕ) → i < n → j < n → 1 ≤ f i → 1 ≤ f j → i ≡ j) → sum f n ≤ t
unfolding sum
sum_one f zero t small once = zero-le
sum_one f (suc n) t small once =
    dite (dec_le 1 (f n)) (λ l. omega (arith, small n (le_refl (suc n)), sum_zero f n (earlier l)))
    (λ l. omega (arith, sum_one f n t (λ i h. small i (le_step h)) (λ i j h k. once i j (le_step h) (le_step k))))
  where
    earlier : 1 ≤ f n → (i : ℕ) → i < n → f i ≡ 0
    earlier l i h =
        let never : 1 ≤ f i → ⊥ = λ k. omega (arith, once i n (le_step h) (le_refl (suc n)) k l) in omega arith

-- of terms that are at most others at rising places
pub sum_among : (f g at : ℕ → ℕ) (m n : ℕ) → ((i j : ℕ) → i < j → j < m → at i < at j)
    → ((i : ℕ) → i < m → (at i < n) × (f i ≤ g (at i))) → sum f m ≤ sum g n
unfolding sum
sum_among f g at zero n rises less = zero-le
sum_among f g at (suc m) n rises less =
    let last = le_refl (suc m) in
    let front =
    sum_among f g at m (at m) (λ i j l h. rises i j l (le_step h)) (λ i l. (rises i m l last, (less i (le_step l)).1)) in
    omega (arith, front, (less m last).1, sum_longer g (suc (at m)) n (less m last).0)
