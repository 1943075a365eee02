-- "Each signal's result is four words: slot, base, repetition, age."
use Rattle.std.specs.Prelude.{List, [], ◌∷◌, ℕ, ◌+◌}
use Rattle.terms.specs.declared.SignalResult.{SignalResult}
use Rattle.terms.specs.Lists.{entry_start}

abbrev pub words_of : SignalResult → List ℕ
words_of r = r.frame.slot ∷ r.frame.base ∷ r.frame.repetition ∷ r.age ∷ []

abbrev pub result_size : ℕ
result_size = 4

-- where the result of signal i starts, and the result in a row of words
abbrev pub result_start : ℕ → ℕ
result_start i = entry_start result_size i

abbrev pub result_from : (word : ℕ → ℕ) → SignalResult
result_from word = record { frame = record { slot = word 0; base = word 1; repetition = word 2 }; age = word 3 }

abbrev pub result_at : (word : ℕ → ℕ) → ℕ → SignalResult
result_at word i = result_from (λ d. word (result_start i + d))
