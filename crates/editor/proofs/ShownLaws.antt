-- The words of results handed over as bytes are the words: each is small enough for four bytes.
-- Assumes nothing.
use mathlib.Core.Path.{◌≡◌, sym, ap, subst, ◌∙◌}
use mathlib.Core.List.{List, Memᴰ, ◌++◌}
use Prim.Native.Nat.{ℕ, ◌*◌, ◌^◌, ◌≤◌, ◌<◌}
use native.Mathlib.Omega.{arith}
use Rattle.terms.specs.declared.Settings.{Settings}
use Rattle.terms.specs.declared.Frame.{Frame}
use Rattle.terms.specs.Ranges.{SettingsInRange, SignalInRange, FrameInRange}
use Rattle.terms.specs.Lists.{count, signal_at, EachSignal}
use Rattle.terms.specs.Results.{result_size, result_at}
use Rattle.terms.proofs.RepetitionLaws.{repetition_most}
use Rattle.terms.proofs.ResultsLaws.{EachWord, each_word, same_at}
use Rattle.age.specs.Age.{first_start, span_of}
use Rattle.age.specs.AgeGiven.{InRange}
use Rattle.age.proofs.AgeLaws.{wait_below}
use Rattle.age.proofs.RangedFrames.{frame_bounded}
use Rattle.rule.specs.Rule.{Kept, Repetitions}
use Rattle.filling.specs.Runs.{Placed}
use Rattle.filling.specs.Filled.{needed, filled}
use Rattle.filling.specs.Shown.{ResultOf, EachResult}
use Rattle.filling.proofs.FilledLaws.{filled_own, filled_some, filled_range}
use Rattle.book.specs.Words.{word_at, bytes_of}
use Rattle.book.proofs.WordLaws.{word_in_front, word_of_bytes}
use Rattle.planner.proofs.PlannedLaws.{kept_seven}

module _
    {s : Settings}
    {list : List ℕ}
    {R : ℕ → ℕ}
    (settings : SettingsInRange s)
    (signals : EachSignal list (SignalInRange s))
    (kept : EachSignal list (Kept s))
    (rule : Repetitions s list R)
    (fits : needed list R ≤ s.slots)
    (word : ℕ → ℕ)
    (shown : EachResult s list (filled list R) word)
  where
    framed : (p : Placed) → Memᴰ p (filled list R) → FrameInRange s.slots p.frame
    framed p m =
        let g = filled_range list R (kept_seven s list R rule kept) (λ i b. omega (arith, (signals i b).unit)) p m in
        record { slot = omega (arith, g.slot, fits); repetition = g.repetition; base = g.base }

    abbrev Small : ℕ → Type 0
    Small n = n < 2 ^ 32

    place_small : (p : Placed) → Memᴰ p (filled list R) → EachWord Small (result_at word p.signal)
    place_small p m =
        let g = framed p m in
        let x = signal_at list p.signal in
        let own = signals p.signal (filled_own list R p m).0 in
        let inside : InRange s x p.frame = record { valid = record { settings = settings; signal = own }; frame = g } in
        let b = frame_bounded s x p.frame inside in
        let age = (shown p m).age.inside inside in
        let wait =
        wait_below (first_start s p.frame) (span_of s p.frame) s.packing b.first_below age.release age.reached.sent
        age.reached.carries in
        let most = repetition_most p.frame.repetition g.repetition in
        let slot = ap (λ (f : Frame). f.slot) (shown p m).frame in
        let base = ap (λ (f : Frame). f.base) (shown p m).frame in
        let repetition = ap (λ (f : Frame). f.repetition) (shown p m).frame in
        omega (arith, age.reached.age, settings.1.1.0.0)

    words_small : (j : ℕ) → j < result_size * count list → Small (word j)
    words_small =
        each_word Small word (count list)
        (λ i b. let r = filled_some list R i b in rw r.2 at (place_small r.0 r.1))

    -- the words of the bytes show what the words show
    pub bytes_show : (f : ℕ → ℕ) (behind : List ℕ) → ((j : ℕ) → j < result_size * count list → f j ≡ word j)
        → EachResult s list (filled list R) (word_at (bytes_of f (result_size * count list) ++ behind))
    bytes_show f behind same p m =
        subst (ResultOf s list p) (sym (same_at _ word (count list) kept_word p.signal (filled_own list R p m).0))
        (shown p m)
      where
        kept_word : (j : ℕ) → j < result_size * count list
            → word_at (bytes_of f (result_size * count list) ++ behind) j ≡ word j
        kept_word j h =
            word_in_front f (result_size * count list) behind j h
            ∙ word_of_bytes f (result_size * count list) j h (rw (same j h) (words_small j h))
            ∙ same j h
