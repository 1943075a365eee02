-- Laws of results among words: one that is stored is read back, all others stay, and a result is its words.
-- Assumes nothing.
use mathlib.Core.Path.{◌≡◌, ap}
use mathlib.Core.List.{List}
use Prim.Native.Nat.{ℕ, zero, suc, ◌+◌, ◌*◌, ◌/◌, ◌%◌, ◌≤◌, ◌<◌}
use native.Mathlib.Nat.{mod-lt, mod-add-div'}
use native.Mathlib.Omega.{arith}
use lib.Dec.{lit≤}
use lib.ListN.{length, get_or}
use Rattle.laws.specs.Lowest.{EachTo}
use Rattle.laws.specs.Stored.{stored}
use Rattle.laws.proofs.StoredLaws.{stored_word, stored_others}
use Rattle.terms.specs.declared.SignalResult.{SignalResult}
use Rattle.terms.specs.Results.{words_of, result_size, result_start, result_from, result_at}

-- two rows of words that agree on a result's words give one result
pub same_result : (v w : ℕ → ℕ) → ((d : ℕ) → d < result_size → v d ≡ w d) → result_from v ≡ result_from w
same_result v w h = cc (h 0 (omega arith), h 1 (omega arith), h 2 (omega arith), h 3 (omega arith))

-- what holds of the place of each word holds of every place below their count
each_place : (P : ℕ → Type 0) → P 0 → P 1 → P 2 → P 3 → (d : ℕ) → d < result_size → P d
each_place P slot base repetition age zero h = slot
each_place P slot base repetition age (suc zero) h = base
each_place P slot base repetition age (suc (suc zero)) h = repetition
each_place P slot base repetition age (suc (suc (suc zero))) h = age
each_place P slot base repetition age (suc (suc (suc (suc d)))) h = absurd (omega arith)

-- and rows of words that give one result agree on its words
pub same_words : (v w : ℕ → ℕ) → result_from v ≡ result_from w → (d : ℕ) → d < result_size → v d ≡ w d
same_words v w e =
    each_place (λ d. v d ≡ w d) (ap (λ (r : SignalResult). r.frame.slot) e) (ap (λ (r : SignalResult). r.frame.base) e)
    (ap (λ (r : SignalResult). r.frame.repetition) e) (ap (λ (r : SignalResult). r.age) e)

module _ (l : List ℕ) (i : ℕ) (r : SignalResult) where
  pub result_stored : result_start i + result_size ≤ length l → result_at (λ d. get_or (stored l (result_start i) (words_of r)) d 0) i ≡ r
  result_stored room =
      same_result (λ d. get_or (stored l (result_start i) (words_of r)) (result_start i + d) 0) (λ d. get_or (words_of r) d 0)
      (λ d h. stored_word l (result_start i) (words_of r) d h room)

  pub result_others : (j : ℕ) → 1 ≤ i → 1 ≤ j → (j ≡ i → ⊥)
      → result_at (λ d. get_or (stored l (result_start i) (words_of r)) d 0) j ≡ result_at (λ d. get_or l d 0) j
  result_others j a b n =
      same_result (λ d. get_or (stored l (result_start i) (words_of r)) (result_start j + d) 0) (λ d. get_or l (result_start j + d) 0)
      (λ d h. stored_others l (result_start i) (words_of r) (result_start j + d) (λ q. omega arith))

-- ---- what holds of each word of each result holds of each of their words

abbrev pub EachWord : (ℕ → Type 0) → SignalResult → Type 0
EachWord P r = P r.frame.slot × P r.frame.base × P r.frame.repetition × P r.age

pub each_word : (P : ℕ → Type 0) (word : ℕ → ℕ) (m : ℕ) → EachTo m (λ i. EachWord P (result_at word i)) → (j : ℕ) → j < result_size * m
    → P (word j)
each_word P word m e j h =
    let i = 1 + j / result_size in
    let place : result_start i + j % result_size ≡ j = omega (arith, mod-add-div' j result_size) in
    let (slot, base, repetition, age) = e i (omega (arith, mod-add-div' j result_size)) in
    rw place at (each_place (λ d. P (word (result_start i + d))) slot base repetition age _ (mod-lt j (lit≤ tt)))

-- two rows of words that agree on the words of m results give the same results
pub same_at : (v w : ℕ → ℕ) (m : ℕ) → ((j : ℕ) → j < result_size * m → v j ≡ w j) → EachTo m (λ i. result_at v i ≡ result_at w i)
same_at v w m h i b = same_result (λ d. v (result_start i + d)) (λ d. w (result_start i + d)) (λ d l. h (result_start i + d) (omega (arith, b)))
