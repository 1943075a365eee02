-- Laws of a book's blocks: the i-th block is block i - 1; block 0 is the settings block, and every later one a signal
-- block; what stands in a block that is written.
-- Assumes nothing.
use Rattle.std.proofs.Common.{◌≡◌, ℕ, zero, suc, ◌+◌, ◌-◌, ◌*◌, ◌<◌, ◌≤◌, min, List, [], ◌∷◌, length, get_or, drop}
use Rattle.std.proofs.Common.{refl, ap, ◌∙◌, subst, arith, lit≤, length-drop, length-take, get_or-drop, get_or-take}
use Rattle.std.proofs.Common.{ne_eqb}
use Rattle.std.proofs.Math.ListN.{get_or-eq_default}
use Rattle.std.specs.Prelude.{Bool, true, false}
use Rattle.std.specs.Bool.{MatchBool}
use Rattle.std.specs.List.{AllWithin, HoldsAt, range_with_len}
use Rattle.std.proofs.lemmas.List.FromFn.{length-range_with_len, get_or-range_with_len}
use Rattle.laws.specs.Says.{Says}
use Rattle.laws.specs.Lowest.{EachTo, LowestWithout}
use Rattle.laws.proofs.LowestLaws.{lowest_not_each}
use Rattle.terms.specs.declared.Settings.{Settings}
use Rattle.terms.specs.Ranges.{setting_word}
use Rattle.terms.specs.Lists.{signal_size, count, CountInRange}
use Rattle.book.specs.Words.{check_of}
use Rattle.book.specs.Blocks.{kind_of, per_block, section_size, settings_words, signal_words, content_of}
use Rattle.book.specs.Blocks.{body_word, block_word}
use Rattle.book.specs.Reading.{used_in}

-- ---- numbered from 0

module _ (m : ℕ) (P : ℕ → Type 0) where
  pub each_numbered : ((k : ℕ) → k < m → P k) → EachTo m (λ i. P (i - 1))
  each_numbered all i h = all (i - 1) (omega arith)

  pub numbered_each : EachTo m (λ i. P (i - 1)) → (k : ℕ) → k < m → P k
  numbered_each each k h = let same : k + 1 - 1 ≡ k = omega arith in subst P same (each (k + 1) (omega arith))

-- what the lowest such, the i-th, tells
pub lowest_numbered : (m : ℕ) (P : ℕ → Type 0) (i : ℕ) → LowestWithout m P i
    → (EachTo m P → ⊥) × LowestWithout m P (i - 1 + 1)
lowest_numbered m P i lowest =
    let same : i - 1 + 1 ≡ i = omega (arith, lowest.within) in
    (lowest_not_each m P i lowest, rw same lowest)

-- a test of the numbers from a up to n says a fact of each
pub range_says : (P : ℕ → Type 0) (a n : ℕ) (b : Bool)
    → MatchBool b (AllWithin P (range_with_len a (n - a)) 0 (length (range_with_len a (n - a))))
    ((k : ℕ) × (k < length (range_with_len a (n - a))) × HoldsAt (λ w. P w → ⊥) (range_with_len a (n - a)) k)
    → Says ((w : ℕ) → a ≤ w → w < n → P w) b
range_says P a n true each = λ w low high.
    let length = length-range_with_len a (n - a) in
    let here : get_or (range_with_len a (n - a)) (w - a) 0 ≡ w =
    get_or-range_with_len a (n - a) (w - a) 0 (omega arith) ∙ omega arith in
    subst P here (each (w - a) 0 (omega arith) (omega (arith, length)))
range_says P a n false (k, within, fails) = λ each.
    let length = length-range_with_len a (n - a) in
    let here = get_or-range_with_len a (n - a) k 0 (omega (arith, length)) in
    fails 0 (rw here (each (a + k) (omega arith) (omega (arith, length))))

-- ---- what stands in a block

-- a fact of each word and its place
abbrev pub EachAt : (ℕ → ℕ → Type 0) → List ℕ → Type 0
EachAt P [] = Unit {0}
EachAt P (x ∷ l) = P 0 x × EachAt (λ d. P (suc d)) l

pub each_at : (P : ℕ → ℕ → Type 0) (l : List ℕ) → EachAt P l → (d : ℕ) → d < length l → P d (get_or l d 0)
each_at P [] each d h = absurd (omega arith)
each_at P (x ∷ l) each zero h = each.0
each_at P (x ∷ l) each (suc d) h = each_at (λ d. P (suc d)) l each.1 d (omega arith)

-- what holds of every later block holds of a block that is not block 0
pub later : (P : ℕ → Type 0) → ((k : ℕ) → P (suc k)) → (k : ℕ) → (k ≡ 0 → ⊥) → P k
later P h zero n = absurd (n refl)
later P h (suc k) n = h k

-- behind number and kind
pub body_content : (s : Settings) (l : List ℕ) (k w : ℕ) → 2 ≤ w → get_or (content_of s l k) (w - 2) 0 ≡ body_word s l k w
body_content s l k w h = let place : suc (suc (w - 2)) ≡ w = omega arith in ap (body_word s l k) place

-- a setting stands at the word that its table says
pub setting_listed : (s : Settings) (m w : ℕ) → 2 ≤ w → w < 7 → setting_word s w ≡ get_or (settings_words s m) (w - 2) 0
unfolding settings_words
setting_listed s m w low high =
    let place : suc (suc (w - 2)) ≡ w = omega arith in
    rw place at (each_at (λ d x. d < 5 → setting_word s (suc (suc d)) ≡ x) (settings_words s m)
    (λ h. refl, (λ h. refl, (λ h. refl, (λ h. refl, (λ h. refl, (λ h. absurd (omega arith), tt))))))
    (w - 2) (omega arith) (omega arith))

-- the words of a signal block behind its share are those of the list
pub signal_listed : (l : List ℕ) (k d : ℕ) → d < section_size
    → get_or (signal_words l k) (suc d) 0 ≡ get_or l (section_size * (k - 1) + d) 0
unfolding signal_words
signal_listed l k d h =
    let before = section_size * (k - 1) in
    get_or-take section_size (drop before l) d 0 h ∙ get_or-drop before l d 0

-- as many words as a block's signals have stand in it, and no more
section_own : (n m k : ℕ) → n ≡ signal_size * m
    → min section_size (n - section_size * k) ≤ signal_size * min per_block (m - per_block * k)
section_own n m k e = omega arith

content_own : (s : Settings) (l : List ℕ) → CountInRange l → (k : ℕ)
    → 2 + length (content_of s l k) ≤ used_in (count l) k
unfolding settings_words signal_words
content_own s l right zero = lit≤ tt
content_own s l right (suc k) =
    let before = section_size * (suc k - 1) in
    let whole : length l ≡ signal_size * count l = omega (arith, right.whole) in
    let own = section_own (length l) (count l) (suc k - 1) whole in
    omega (arith, length-take section_size (drop before l), length-drop before l)

pub body_zero : (s : Settings) (l : List ℕ) → CountInRange l → (k w : ℕ) → used_in (count l) k ≤ w
    → body_word s l k w ≡ 0
body_zero s l right k w used =
    get_or-eq_default (k ∷ kind_of k ∷ content_of s l k) 0 {n = w} (omega (arith, content_own s l right k))

-- word 127 is the check, and every word before it the body's
module _ (s : Settings) (l : List ℕ) (k : ℕ) where
  pub block_body : (w : ℕ) → w < 127 → block_word s l k w ≡ body_word s l k w
  unfolding block_word
  block_body w h = simp (ne_eqb w 127 (λ e. omega arith))

  pub block_check : block_word s l k 127 ≡ check_of (body_word s l k)
  unfolding block_word
  block_check = refl
