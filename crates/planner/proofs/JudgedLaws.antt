-- Laws of the judge: how the search keeps the repetitions found, and what it gives.
-- Assumes nothing.
use mathlib.Core.Path.{◌≡◌, refl}
use mathlib.Core.List.{List, [], ◌∷◌}
use mathlib.Core.Logic.{inl}
use Prim.Native.Nat.{ℕ, ◌+◌, ◌-◌, ◌≤◌, ◌<◌}
use native.Mathlib.Omega.{arith}
use lib.ListN.{length, set}
use lib.Seq.{get_or-set_same, get_or-set_other}
use Rattle.std.specs.Prelude.{Err}
use Rattle.laws.specs.Lowest.{LowestWithout}
use Rattle.laws.proofs.LowestLaws.{Reached, reached_next, reached_all, reached_fails, lowest_not_each}
use Rattle.terms.specs.declared.Settings.{Settings}
use Rattle.terms.specs.declared.Signal.{Signal}
use Rattle.terms.specs.declared.Refusal.TheVariants.{Field, Bound}
use Rattle.terms.specs.Ranges.{SignalInRange, Repetition}
use Rattle.terms.specs.Lists.{count, signal_at, EachSignal}
use Rattle.terms.proofs.RepetitionLaws.{repetition_positive}
use Rattle.rule.specs.Rule.{Keeps, segment, Largest, Kept, Repetitions, RepetitionGiven}
use Rattle.filling.specs.Outcomes.{repetition_in}
use Rattle.planner.specs.Rows.{field_row, bound_row}
use Rattle.terms.specs.Answers.{Answers}
use Rattle.planner.specs.Judged.{Judgeable}

-- where all signals before i are in range and i is not, i is the place of 7
pub field_refused : (s : Settings) (list : List ℕ) (i : ℕ) → Reached (count list) (λ j. SignalInRange s (signal_at list j)) i
    → i ≤ count list → (SignalInRange s (signal_at list i) → ⊥) → Answers (field_row s list ∷ []) (λ p. ⊥) (Err (Field i))
field_refused s list i f h n =
    let low = reached_fails (count list) (λ j. SignalInRange s (signal_at list j)) i f h n in
    inl (lowest_not_each _ _ i low, refl, low)

-- signal j has its repetition among the words
pub record FoundIn (s : Settings) (list words : List ℕ) (j : ℕ) : Type 0 where
  pub largest : Largest (Keeps s (signal_at list j) (segment s)) (repetition_in words j)
  pub some : 1 ≤ repetition_in words j

module _ {s : Settings} {list words : List ℕ} {i : ℕ} (f : Reached (count list) (FoundIn s list words) i) where
  -- a repetition put at the next place leaves those before it, and is found there
  pub found_next : {r : ℕ} → i - 1 < length words → i ≤ count list → Largest (Keeps s (signal_at list i) (segment s)) r
      → 1 ≤ r → Reached (count list) (FoundIn s list (set words (i - 1) r)) (i + 1)
  found_next {r} h l g k =
      reached_next (count list) (FoundIn s list (set words (i - 1) r)) i
      (record { first = f.first; last = f.last; passed = λ j a b. moved j a b (f.passed j a b) }) l
      (record { largest = rw here g; some = rw here k })
    where
      here : repetition_in (set words (i - 1) r) i ≡ r
      here = get_or-set_same words (i - 1) r 0 h

      moved : (j : ℕ) → 1 ≤ j → j < i → FoundIn s list words j → FoundIn s list (set words (i - 1) r) j
      moved j a b p =
          let there = get_or-set_other words (i - 1) (j - 1) r 0 (λ e. omega arith) in
          record { largest = rw there p.largest; some = rw there p.some }

  -- a signal whose repetition is found is kept by it
  kept_so_far : Reached (count list) (λ j. Kept s (signal_at list j)) i
  kept_so_far =
      record {
        first = f.first;
        last = f.last;
        passed = λ j a b.
            let h = (f.passed j a b).largest.has (λ z. omega (arith, (f.passed j a b).some)) in
            (repetition_in words j, h.0, h.1);
      }

  module _ (h : count list < i) where
    pub all_kept : EachSignal list (Kept s)
    all_kept = reached_all (count list) (λ j. Kept s (signal_at list j)) i kept_so_far h

    pub all_found : Repetitions s list (repetition_in words)
    all_found j b = (reached_all (count list) (FoundIn s list words) i f h j b).largest

  module _ (right : Judgeable s list) (l : i ≤ count list) where
    -- the repetition given of a signal of the list is the largest that keeps its bound
    pub largest_given : {r : ℕ} → RepetitionGiven s (signal_at list i) r → Largest (Keeps s (signal_at list i) (segment s)) r
    largest_given given = given.inside (record { settings = right.settings; signal = right.signals i (f.first, l) })

    -- put at its place, it is found there
    pub found_there : {r : ℕ} → length words ≡ 600 → RepetitionGiven s (signal_at list i) r → Repetition r
        → Reached (count list) (FoundIn s list (set words (i - 1) r)) (i + 1)
    found_there {r} long given seven =
        found_next (omega (arith, f.first, right.right.few)) l (largest_given given) (repetition_positive r seven)

    -- where it is 0, the search has found the lowest signal that gets none, and i is the place of 8
    pub found_none : {x : Signal} {r : ℕ} → x ≡ signal_at list i → RepetitionGiven s x r → r ≡ 0
        → LowestWithout (count list) (λ j. Kept s (signal_at list j)) i
    found_none e given z =
        let largest = (largest_given (rw e at given)).largest in
        reached_fails (count list) (λ j. Kept s (signal_at list j)) i kept_so_far l
        (λ k. omega (arith, z, largest k.0 k.1 k.2, repetition_positive k.0 k.1))

    pub bound_refused : RepetitionGiven s (signal_at list i) 0 → Answers (bound_row s list ∷ []) (λ p. ⊥) (Err (Bound i))
    bound_refused given = let low = found_none refl given refl in inl (lowest_not_each _ _ i low, refl, low)
