-- One theorem a routine: two outcomes that its contract allows for the same input are equal.
-- Assumes nothing.
use mathlib.Core.Path.{◌≡◌, ◌∙◌, sym}
use mathlib.Core.Bool.{Bool}
use mathlib.Core.List.{List}
use Prim.Native.Nat.{ℕ, ◌≤◌}
use lib.ListN.{get_or}
use Rattle.std.specs.Prelude.{◌≢◌, ◌↔◌, Option, Some, unwrap_or, IsSome}
use Rattle.laws.specs.Says.{Says}
use Rattle.laws.specs.Stored.{stored}
use Rattle.laws.proofs.SaysLaws.{says_unique}
use Rattle.laws.proofs.OptionLaws.{same_not_zero, same_where}
use Rattle.terms.specs.declared.Refusal.{Refusal}
use Rattle.terms.specs.declared.Settings.{Settings}
use Rattle.terms.specs.declared.Signal.{Signal}
use Rattle.terms.specs.declared.Frame.{Frame}
use Rattle.terms.specs.declared.SignalResult.{SignalResult}
use Rattle.terms.specs.Answers.{Answer, refusal_number, refusal_place, number_of, place_of, packed_of}
use Rattle.terms.specs.Ranges.{LowestOutOfRange, setting_word, SignalInRange, Valid, Repetition, FrameInRange}
use Rattle.terms.specs.Lists.{count, CountInRange, signal_at}
use Rattle.terms.specs.Results.{result_start, result_at, words_of}
use Rattle.terms.proofs.RangesLaws.{lowest_word_unique}

pub refusal_number_unique : (e : Refusal) (q r : ℕ) → q ≡ refusal_number e → r ≡ refusal_number e → q ≡ r
refusal_number_unique e q r d f = d ∙ sym f

pub refusal_place_unique : (e : Refusal) (q r : ℕ) → q ≡ refusal_place e → r ≡ refusal_place e → q ≡ r
refusal_place_unique e q r d f = d ∙ sym f

pub number_unique : (a : Answer) (q r : ℕ) → q ≡ number_of a → r ≡ number_of a → q ≡ r
number_unique a q r d e = d ∙ sym e

pub place_unique : (a : Answer) (q r : ℕ) → q ≡ place_of a → r ≡ place_of a → q ≡ r
place_unique a q r d e = d ∙ sym e

pub packed_unique : (a : Answer) (q r : ℕ) → q ≡ packed_of a → r ≡ packed_of a → q ≡ r
packed_unique a q r d e = d ∙ sym e

pub setting_out_of_range_unique : (s : Settings) (v w : Option ℕ) → LowestOutOfRange s (unwrap_or v 0) → v ≢ Some 0
    → LowestOutOfRange s (unwrap_or w 0) → w ≢ Some 0 → v ≡ w
setting_out_of_range_unique s v w k m l n = same_not_zero v w m n (lowest_word_unique s (unwrap_or v 0) (unwrap_or w 0) k l)

pub signal_in_range_unique : (s : Settings) (x : Signal) (a b : Bool) → Says (SignalInRange s x) a → Says (SignalInRange s x) b → a ≡ b
signal_in_range_unique s x = says_unique (SignalInRange s x)

pub valid_unique : (s : Settings) (x : Signal) (a b : Bool) → Says (Valid s x) a → Says (Valid s x) b → a ≡ b
valid_unique s x = says_unique (Valid s x)

pub is_repetition_unique : (R : ℕ) (a b : Bool) → Says (Repetition R) a → Says (Repetition R) b → a ≡ b
is_repetition_unique R = says_unique (Repetition R)

pub frame_in_range_unique : (s : Settings) (f : Frame) (a b : Bool) → Says (FrameInRange s.slots f) a → Says (FrameInRange s.slots f) b → a ≡ b
frame_in_range_unique s f = says_unique (FrameInRange s.slots f)

pub one_setting_word : (s : Settings) (w q r : ℕ) → q ≡ setting_word s w → r ≡ setting_word s w → q ≡ r
one_setting_word s w q r d e = d ∙ sym e

pub setting_word_unique : (s : Settings) (w : ℕ) (q r : Option ℕ) → unwrap_or q 0 ≡ setting_word s w → IsSome q ↔ (2 ≤ w) × (w ≤ 6)
    → unwrap_or r 0 ≡ setting_word s w → IsSome r ↔ (2 ≤ w) × (w ≤ 6) → q ≡ r
setting_word_unique s w q r d f e g = same_where q r f g (one_setting_word s w (unwrap_or q 0) (unwrap_or r 0) d e)

pub count_unique : (list : List ℕ) (q r : ℕ) → q ≡ count list → r ≡ count list → q ≡ r
count_unique list q r d e = d ∙ sym e

pub count_in_range_unique : (list : List ℕ) (a b : Bool) → Says (CountInRange list) a → Says (CountInRange list) b → a ≡ b
count_in_range_unique list = says_unique (CountInRange list)

pub signal_at_unique : (list : List ℕ) (i : ℕ) (x y : Signal) → x ≡ signal_at list i → y ≡ signal_at list i → x ≡ y
signal_at_unique list i x y d e = d ∙ sym e

pub result_at_unique : (results : List ℕ) (i : ℕ) (r q : SignalResult) → r ≡ result_at (λ d. get_or results d 0) i
    → q ≡ result_at (λ d. get_or results d 0) i → r ≡ q
result_at_unique results i r q d e = d ∙ sym e

pub put_result_unique : (l : List ℕ) (i : ℕ) (r : SignalResult) (a b : List ℕ) → a ≡ stored l (result_start i) (words_of r)
    → b ≡ stored l (result_start i) (words_of r) → a ≡ b
put_result_unique l i r a b d e = d ∙ sym e
