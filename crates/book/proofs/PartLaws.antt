-- The part of a book for signal i: every book has it or has not; it lies in the book and holds the signal's words.
-- Assumes nothing.
use Rattle.std.proofs.Common.{◌≡◌, ℕ, ◌+◌, ◌-◌, ◌*◌, ◌/◌, ◌%◌, ◌<◌, ◌≤◌, ◌⊎◌, List, length, get_or, drop, sym, ap}
use Rattle.std.proofs.Common.{◌∙◌, inl, inr, ⊎_elim, arith, length-drop, length-take}
use Rattle.std.specs.Prelude.{◌≢◌}
use Rattle.laws.specs.Given.{Given}
use mathlib.Core.Logic.Dec
use mathlib.Core.Logic.{dite}
use native.Mathlib.Decide.{dec_le}
use Rattle.terms.specs.Lists.{signal_size, entry_start}
use Rattle.book.specs.Words.{word_at}
use Rattle.book.specs.Blocks.{per_block, section_size}
use Rattle.book.specs.Reading.{signals_of, list_word, list_in}
use Rattle.book.specs.Part.{HasSignal, part_size, part_start}
use Rattle.book.specs.Outcomes.{PartOutcome}
use Rattle.book.proofs.WordLaws.{word_of_part}
use Rattle.book.proofs.SoundLaws.{sound_length, sound_count, sound_or_not}
use Rattle.book.proofs.AcceptedLaws.{list_at}

pub has_or_not : (b : List ℕ) (i : ℕ) → HasSignal b i ⊎ (HasSignal b i → ⊥)
has_or_not b i =
    ⊎_elim
    (λ sound. dite (Dec.and (dec_le 1 i) (dec_le i (signals_of b))) (λ h. inl (sound, h)) (λ n. inr (λ has. n has.1)))
    (λ unsound. inr (λ has. unsound has.0)) (sound_or_not b)

-- a byte that is not 0 is given of a signal that is there
pub part_at_has : {b : List ℕ} {i p : ℕ} → Given (HasSignal b i) (λ n. n ≡ part_start i) p → p ≢ 0
    → HasSignal b i × (p ≡ part_start i)
part_at_has {b} {i} given some =
    ⊎_elim (λ has. (has, given.inside has)) (λ lacks. absurd (some (given.outside lacks))) (has_or_not b i)

pub part_inside : (b : List ℕ) (i : ℕ) → HasSignal b i → part_start i + part_size ≤ length b
part_inside b i has =
    let right = sound_length b has.0 in
    let count = sound_count b has.0 in
    omega (arith, right.whole, has.1)

-- the part that the contract gives for signal i of a sound book: twenty bytes, the signal's five words
pub part_holds : {b r : List ℕ} {place start : ℕ × ℕ} {i : ℕ} → PartOutcome b place i r start → HasSignal b i
    → (length r ≡ part_size)
    × ((j : ℕ) → j < signal_size → word_at r j ≡ get_or (list_in b) (entry_start signal_size i + j) 0)
unfolding list_word
part_holds {b} {i = i} outcome has =
    rw (outcome.has has).0 (
      omega (arith, length-take part_size (drop (part_start i) b), length-drop (part_start i) b, part_inside b i has),
      λ j h.
          let n = i - 1 in
          let q = 128 * (1 + n / per_block) + 3 + signal_size * (n % per_block) in
          let block : (signal_size * n + j) / section_size ≡ n / per_block = omega arith in
          let word : (signal_size * n + j) % section_size ≡ signal_size * (n % per_block) + j = omega arith in
          word_of_part b (part_start i) part_size q j (omega arith) (omega arith)
          ∙ ap (word_at b) (omega arith)
          ∙ sym (list_at b (signal_size * n + j) (omega (arith, has.1))),
    )
