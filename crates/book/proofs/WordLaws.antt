-- Laws of words in bytes: how bytes become words and words bytes, each over the position.
-- Assumes nothing.
use Rattle.std.proofs.Common.{◌≡◌, ℕ, zero, suc, ◌+◌, ◌*◌, ◌/◌, ◌%◌, ◌^◌, ◌<◌, ◌≤◌, List, ◌++◌, length, get_or, take}
use Rattle.std.proofs.Common.{drop, set, sym, ap, ◌∙◌, add-zero, mod-lt, arith, lit<, lit≤, get_or-drop, get_or-take}
use Rattle.std.proofs.Common.{le-leb}
use mathlib.Core.Logic.{dite}
use native.Mathlib.Nat.{div-div-eq-div-mul}
use borrow.Author.Tests.{lt-leb}
use native.Mathlib.Decide.{dec_lt}
use Rattle.std.proofs.Math.ListN.{get_or-eq_default, get_or-append}
use Rattle.laws.specs.Stored.{stored_from}
use Rattle.book.specs.Words.{AllBelow, up_to, word_of, byte_at, word_at, byte_of, byte_in}
use Rattle.book.specs.Words.{bytes_of, bytes_over, bytes_after}
use Rattle.book.specs.Private.{with_word}
use Rattle.book.proofs.UpToLaws.{up_to_length, up_to_at, up_to_is, Over, over_one}

-- past its end a list has zeros
pub all_below : (n : ℕ) (l : List ℕ) → 0 < n → ((i : ℕ) → i < length l → get_or l i 0 < n) → AllBelow n l
all_below n l some each i =
    dite (dec_lt i (length l)) (each i) (λ past. rw (get_or-eq_default l 0 {n = i} (omega arith)) some)

-- byte i of word p
byte_in_word : (f : ℕ → ℕ) (p i : ℕ) → i < 4 → byte_of (f p) i ≡ byte_in f (4 * p + i)
unfolding byte_in
byte_in_word f p i h =
    let word : p ≡ (4 * p + i) / 4 = omega arith in
    let place : i ≡ (4 * p + i) % 4 = omega arith in
    λ k. byte_of (f (word k)) (place k)

-- ---- words put one after the other

-- the first p words are put, wherever they come from, and what lies behind is as it was
abbrev pub Put : (f : ℕ → ℕ) (lent room : List ℕ) → ℕ → Type 0
Put f lent room p = Over (byte_in f) lent room (4 * p)

pub put_more : (f : ℕ → ℕ) {lent room next : List ℕ} (p x : ℕ) → Put f lent room p → 4 * p + 4 ≤ length lent
    → x ≡ f p → next ≡ with_word room p x → Put f lent next (p + 1)
unfolding stored_from up_to
put_more f {lent} p x put fits value e =
    let end : 4 * (p + 1) ≡ 4 * p + 4 = omega arith in
    let start = rw (← add-zero (4 * p)) at put in
    rw (e, end) (byte 3 (lit< tt) (byte 2 (lit< tt) (byte 1 (lit< tt) (byte 0 (lit< tt) start))))
  where
    byte : {room : List ℕ} (i : ℕ) → i < 4 → Over (byte_in f) lent room (4 * p + i)
        → Over (byte_in f) lent (set room (4 * p + i) (byte_of x i)) (4 * p + (i + 1))
    byte i h o = over_one (4 * p + i) _ _ o (omega arith) (rw value (byte_in_word f p i h)) (omega arith)

pub put_all : (f : ℕ → ℕ) (lent room : List ℕ) (p n : ℕ) → Put f lent room p → p ≡ n → room ≡ bytes_over f n lent
unfolding bytes_of
put_all f lent room p n put e = put.written ∙ ap (λ (k : ℕ). bytes_over f k lent) e

pub bytes_after_none : (words lent : List ℕ) → length lent < 4 * length words → bytes_after words lent ≡ lent
unfolding bytes_after
bytes_after_none words lent h = rw (lt-leb (4 * length words) (length lent) h)

pub bytes_after_all : (words lent : List ℕ) → 4 * length words ≤ length lent
    → bytes_after words lent ≡ bytes_over (λ p. get_or words p 0) (length words) lent
unfolding bytes_after
bytes_after_all words lent h = rw (le-leb (4 * length words) (length lent) h)

-- ---- words read

pub bytes_length : (f : ℕ → ℕ) (n : ℕ) → length (bytes_of f n) ≡ 4 * n
unfolding bytes_of
bytes_length f n = up_to_length (byte_in f) (4 * n)

-- words of the same bytes are the same
word_same : (f g : ℕ → ℕ) → ((i : ℕ) → i < 4 → f i ≡ g i) → word_of f ≡ word_of g
word_same f g same =
    λ k. same 0 (lit< tt) k + 256 * same 1 (lit< tt) k + 65536 * same 2 (lit< tt) k + 16777216 * same 3 (lit< tt) k

pub words_same : (b c : List ℕ) (p q : ℕ) → ((i : ℕ) → i < 4 → byte_at b p i ≡ byte_at c q i)
    → word_at b p ≡ word_at c q
unfolding word_at
words_same b c p q = word_same (byte_at b p) (byte_at c q)

-- a word below 2 ^ 32 is that of its four bytes: a, b and c are what is left of it after one, two and three bytes
digits : (x a b c r₀ r₁ r₂ r₃ : ℕ) → x ≡ 256 * a + r₀ → a ≡ 256 * b + r₁ → b ≡ 256 * c + r₂ → c ≡ r₃
    → r₀ + 256 * r₁ + 65536 * r₂ + 16777216 * r₃ ≡ x
digits x a b c r₀ r₁ r₂ r₃ e₀ e₁ e₂ e₃ = omega arith

four_bytes : (x : ℕ) → x < 2 ^ 32 → word_of (byte_of x) ≡ x
unfolding byte_of
four_bytes x h =
    digits x (x / 256) (x / 65536) (x / 16777216) _ _ _ _ (omega arith) (omega (arith, div-div-eq-div-mul x 256 256))
    (omega (arith, div-div-eq-div-mul x 65536 256)) (omega arith)

-- reading gives back the words of which the bytes were made
pub word_of_bytes : (f : ℕ → ℕ) (n p : ℕ) → p < n → f p < 2 ^ 32 → word_at (bytes_of f n) p ≡ f p
unfolding word_at bytes_of
word_of_bytes f n p h fits =
    word_same (byte_at (bytes_of f n) p) (byte_of (f p))
    (λ i l. up_to_at (byte_in f) (4 * n) (4 * p + i) (omega arith) ∙ sym (byte_in_word f p i l))
    ∙ four_bytes (f p) fits

-- byte j of bytes is that of the word that is read around it
byte_of_word : (b : List ℕ) (j : ℕ) → ((i : ℕ) → i < 4 → byte_at b (j / 4) i < 256)
    → byte_of (word_at b (j / 4)) (j % 4) ≡ get_or b j 0
unfolding byte_of word_at
byte_of_word b j h =
    let place : 4 * (j / 4) + j % 4 ≡ j = omega arith in
    rw place at (at (j % 4) (omega arith) (h 0 (lit< tt)) (h 1 (lit< tt)) (h 2 (lit< tt)) (h 3 (lit< tt)))
  where
    at : (i : ℕ) → i < 4 → byte_at b (j / 4) 0 < 256 → byte_at b (j / 4) 1 < 256 → byte_at b (j / 4) 2 < 256
        → byte_at b (j / 4) 3 < 256 → word_of (byte_at b (j / 4)) / 256 ^ i % 256 ≡ byte_at b (j / 4) i
    at zero l c d e f = omega arith
    at (suc zero) l c d e f = omega arith
    at (suc (suc zero)) l c d e f = omega arith
    at (suc (suc (suc zero))) l c d e f = omega arith
    at (suc (suc (suc (suc i)))) l c d e f = absurd (omega arith)

-- bytes are those of the words that are read from them
pub bytes_of_words : (b : List ℕ) → AllBelow 256 b → (f : ℕ → ℕ) (n : ℕ) → length b ≡ 4 * n
    → ((p : ℕ) → p < n → word_at b p ≡ f p) → b ≡ bytes_of f n
unfolding byte_in bytes_of
bytes_of_words b h f n e same =
    up_to_is (byte_in f) (4 * n) b e
    (λ j l. rw (← same (j / 4) (omega arith)) (sym (byte_of_word b j (λ i k. h (4 * (j / 4) + i)))))

-- a word of a part that starts at word q
pub word_of_part : (b : List ℕ) (at n q j : ℕ) → at ≡ 4 * q → 4 * j + 4 ≤ n
    → word_at (take n (drop at b)) j ≡ word_at b (q + j)
word_of_part b at n q j e h =
    words_same (take n (drop at b)) b j (q + j)
    (λ i l.
    let place : at + (4 * j + i) ≡ 4 * (q + j) + i = omega arith in
    rw (← place) (get_or-take n (drop at b) (4 * j + i) 0 (omega arith) ∙ get_or-drop at b (4 * j + i) 0))

-- a word, and a byte, in front of other bytes
pub word_in_front : (f : ℕ → ℕ) (n : ℕ) (rest : List ℕ) (p : ℕ) → p < n
    → word_at (bytes_of f n ++ rest) p ≡ word_at (bytes_of f n) p
word_in_front f n rest p h =
    words_same (bytes_of f n ++ rest) (bytes_of f n) p p
    (λ i l. get_or-append (bytes_of f n) rest 0 (4 * p + i) (omega (arith, bytes_length f n)))

pub byte_in_front : (f : ℕ → ℕ) (n : ℕ) (rest : List ℕ) (j : ℕ) → j < 4 * n → get_or (bytes_of f n ++ rest) j 0 < 256
unfolding bytes_of byte_in byte_of
byte_in_front f n rest j h =
    rw (get_or-append (bytes_of f n) rest 0 j (omega (arith, bytes_length f n)), up_to_at (byte_in f) (4 * n) j h)
    (mod-lt (f (j / 4) / 256 ^ (j % 4)) (lit≤ tt))

-- bytes are the same where their words are
pub same_bytes : (a b : List ℕ) (m : ℕ) → ((j : ℕ) → j < 4 * m → get_or a j 0 < 256)
    → ((j : ℕ) → j < 4 * m → get_or b j 0 < 256)
    → ((p : ℕ) → p < m → word_at a p ≡ word_at b p) → (j : ℕ) → j < 4 * m → get_or a j 0 ≡ get_or b j 0
same_bytes a b m h k words j l =
    sym (byte_of_word a j (λ i d. h (4 * (j / 4) + i) (omega arith)))
    ∙ ap (λ (w : ℕ). byte_of w (j % 4)) (words (j / 4) (omega arith))
    ∙ byte_of_word b j (λ i d. k (4 * (j / 4) + i) (omega arith))
