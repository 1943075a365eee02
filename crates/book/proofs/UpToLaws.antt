-- Laws of runs by position: the list of the first values of a function, such a list written over what was lent, and the
-- sum of which a check is made.
-- Assumes nothing.
use Rattle.std.proofs.Common.{◌≡◌, ℕ, zero, suc, ◌+◌, ◌%◌, ◌^◌, ◌<◌, List, [], ◌∷◌, ◌++◌, length, get_or, drop}
use Rattle.std.proofs.Common.{◌≤◌, set, sym, refl, ap, ◌∙◌, not-suc-le-zero, add-zero, add-one, arith}
use Rattle.std.proofs.Common.{length-append, length-set, length-drop, append-nil, append_assoc}
use Rattle.std.proofs.Math.Nat.{add-suc}
use Rattle.std.proofs.lemmas.List.{take_at, drop_at, drop-drop}
use Rattle.std.proofs.Common.{drop-cons, ext_get_or, below_more}
use Rattle.std.proofs.Math.ListN.{get_or-append}
use Rattle.std.proofs.Math.Seq.{set_at, get_or_at, append_snoc}
use Rattle.laws.specs.Sums.{sum}
use Rattle.laws.proofs.SumLaws.{sum_more, sum_ext}
use Rattle.book.specs.Words.{up_to, check_of}
use borrow.Rule.Slice.PartMut.{put_mid}

pub up_to_length : (f : ℕ → ℕ) (n : ℕ) → length (up_to f n) ≡ n
unfolding up_to
up_to_length f zero = refl
up_to_length f (suc n) = rw (length-append, up_to_length f n, add-one)

pub up_to_at : (f : ℕ → ℕ) (n i : ℕ) → i < n → get_or (up_to f n) i 0 ≡ f i
unfolding up_to
up_to_at f zero i h = absurd (not-suc-le-zero h)
up_to_at f (suc n) i h =
    below_more (λ (j : ℕ). get_or (up_to f n ++ (f n ∷ [])) j 0 ≡ f j) n
    (λ j l. get_or-append (up_to f n) (f n ∷ []) 0 j (omega (arith, up_to_length f n)) ∙ up_to_at f n j l)
    (get_or_at (up_to f n) (f n) [] 0 n (up_to_length f n)) i (omega arith)

-- a list with these values is the run
pub up_to_is : (f : ℕ → ℕ) (n : ℕ) (l : List ℕ) → length l ≡ n → ((i : ℕ) → i < n → get_or l i 0 ≡ f i) → l ≡ up_to f n
up_to_is f n l e same =
    ext_get_or 0 l (up_to f n) (e ∙ sym (up_to_length f n))
    (λ i h. let k : i < n = omega arith in same i k ∙ sym (up_to_at f n i k))

-- ---- a run over what was lent: its first n are the run's, and what lies behind stays

pub record Over (f : ℕ → ℕ) (lent room : List ℕ) (n : ℕ) : Type 0 where
  pub written : room ≡ up_to f n ++ drop n lent
  pub as_long : length room ≡ length lent

pub over_none : (f : ℕ → ℕ) (lent : List ℕ) → Over f lent lent 0
unfolding up_to
over_none f lent = record { written = refl; as_long = refl }

-- a store at its end makes it one longer
pub over_one : {f : ℕ → ℕ} {lent room : List ℕ} (n m x : ℕ) → Over f lent room n → n < length lent → x ≡ f n
    → m ≡ n + 1 → Over f lent (set room n x) m
unfolding up_to
over_one {f} {lent} {room} n m x o h is e =
    record {
      written = rw (e, add-one, o.written, drop-cons lent n 0, set_at _ _ _ _ n (up_to_length f n), is, append_snoc);
      as_long = length-set room n x ∙ o.as_long;
    }

-- a run after another
pub up_to_join : (f g : ℕ → ℕ) (n m : ℕ) → ((i : ℕ) → i < m → g i ≡ f (n + i))
    → up_to f n ++ up_to g m ≡ up_to f (n + m)
unfolding up_to
up_to_join f g n zero same = rw (add-zero, append-nil) refl
up_to_join f g n (suc m) same =
    rw (add-suc, ← append_assoc, up_to_join f g n m (λ i h. same i (omega arith)), same m (omega arith)) refl

-- written at its end it makes it as much longer
pub over_more : {f g : ℕ → ℕ} {lent room part : List ℕ} (n m k : ℕ) → Over f lent room n → k ≡ m → n + m ≤ length lent
    → part ≡ up_to g m → ((i : ℕ) → i < m → g i ≡ f (n + i)) → Over f lent (put_mid n k room part) (n + m)
over_more {f} {g} {lent} {room} {part} n m k o e fits is same =
    let front = up_to_length f n in
    let written : put_mid n k room part ≡ up_to f (n + m) ++ drop (n + m) lent =
    rw (o.written, take_at _ (drop n lent) n front, drop_at _ (drop n lent) n front, drop-drop, e, is)
    (rw (← append_assoc, up_to_join f g n m same) refl) in
    let parts = length-append (up_to f (n + m)) (drop (n + m) lent) in
    let as_long : length (up_to f (n + m) ++ drop (n + m) lent) ≡ length lent =
    omega (arith, parts, up_to_length f (n + m), length-drop (n + m) lent) in
    record { written = written; as_long = rw written as_long }

-- ---- the sum of which a check is made

pub check_same : (f g : ℕ → ℕ) → ((w : ℕ) → w < 127 → f w ≡ g w) → check_of f ≡ check_of g
unfolding check_of
check_same f g same = ap (λ (x : ℕ). (x + 1) % 2 ^ 32) (sum_ext f g 127 same)

-- one word more in a sum that starts at 1 and is kept to 32 bits
pub sum_kept : (f : ℕ → ℕ) (n s x : ℕ) → s ≡ (sum f n + 1) % 2 ^ 32 → x ≡ f n
    → (s + x) % 2 ^ 32 ≡ (sum f (n + 1) + 1) % 2 ^ 32
sum_kept f n s x before here = omega (arith, sum_more f n)
