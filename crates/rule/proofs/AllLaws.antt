-- What `all` over a row of numbers says, and what `find` gives of a list, where the closure says a fact of each number.
-- Assumes nothing.
use mathlib.Core.Path.{◌≡◌}
use mathlib.Core.Bool.{Bool, true, false}
use Prim.Native.Nat.{ℕ, ◌<◌}
use native.Mathlib.Omega.{arith}
use lib.ListN.{get_or}
use denote.Param.Members.{Mut}
use denote.Ref.{Bor}
use Rattle.std.specs.Prelude.{List, length, Option, MatchOption, MatchBool, ⊤}
use Rattle.std.specs.List.{FoldsTo, AllWithin, HoldsAt, range_with_len}
use Rattle.std.specs.Iterator.{YieldsThen}
use Rattle.std.specs.Fn.{Called, CalledAt}
use Rattle.std.proofs.lemmas.List.FromFn.{length-range_with_len, get_or-range_with_len}
use Rattle.std.proofs.lemmas.Iterator.{YieldsList, YieldsList-from_range, cases_from_all, first_from_find}
use Rattle.std.specs.declared.ops.Range.{Range}
use Rattle.std.proofs.iter.Yields.{nat_range_steps}
use Rattle.laws.specs.Says.{Says}

-- over `0..n`
pub all_says : {F : Type 0} {g : Mut F (ℕ × Unit {0}) Bool} {f : F} {s : Range ℕ} (n : ℕ) (P : ℕ → Type 0)
    → ((x : ℕ) (b : Bool) (q : F) → Called g f (x, tt) b q → (q ≡ f) × Says (P x) b) → s ≡ record { start = 0; end = n }
    → (u : Range ℕ) (r : Bool)
    → (xs : List ℕ) × (o : Option ℕ) × (j : F) × YieldsThen nat_range_steps s xs o u × FoldsTo (λ p x q. Called g p (x, tt) true q) f xs j
    × MatchOption o (r ≡ true) (λ x. (r ≡ false) × ((h : F) × Called g j (x, tt) false h))
    → Says ((k : ℕ) → k < n → P k) r
all_says {f = f} n P calls i u r ran =
    from r (cases_from_all u f r P (λ y. P y → ⊥) ran (YieldsList-from_range 0 n n i (omega arith)) (λ x q c. calls x true q c)
    (λ x q c. (calls x false q c).1))
  where
    numbers : List ℕ
    numbers = range_with_len 0 n

    long : length numbers ≡ n
    long = length-range_with_len 0 n

    same : (k : ℕ) → k < n → get_or numbers k 0 ≡ k
    same k l = omega (arith, get_or-range_with_len 0 n k 0 l)

    from : (b : Bool) → MatchBool b (AllWithin P numbers 0 (length numbers)) ((k : ℕ) × (k < length numbers) × HoldsAt (λ y. P y → ⊥) numbers k)
        → Says ((k : ℕ) → k < n → P k) b
    from true each = λ k l. rw (same k l) at (each k 0 (omega arith) (omega (arith, long)))
    from false (k, l, fails) = λ each. let h : k < n = omega (arith, long) in fails 0 (rw (same k h) (each k h))

-- what `find` ensures of its calls
abbrev pub Found : {S F : Type 0} (steps : S → Option ℕ → S → Type 0) (g : Mut F (Bor ℕ × Unit {0}) Bool) (f : F) (s u : S) → Option ℕ → Type 0
Found steps g f s u r =
    (xs : List ℕ) × (j : _) × YieldsThen steps s xs r u × FoldsTo (λ p x q. CalledAt g p x false q) f xs j
    × MatchOption r ⊤ (λ x. (h : _) × CalledAt g j x true h)

-- the first with P is the number that is given, and none has it where none is given
abbrev pub FirstWith : (ℕ → Type 0) → List ℕ → Option ℕ → Type 0
FirstWith P all r =
    MatchOption r (AllWithin (λ y. P y → ⊥) all 0 (length all))
    (λ x. P x × (i : ℕ) × (i < length all) × HoldsAt (λ y. y ≡ x) all i × AllWithin (λ y. P y → ⊥) all 0 i)

pub first_says : {S F : Type 0} {steps : S → Option ℕ → S → Type 0} {g : Mut F (Bor ℕ × Unit {0}) Bool} {f : F} {s u : S} {all : List ℕ}
    (P : ℕ → Type 0) → ((x : Bor ℕ) (b : Bool) (q : F) → Called g f (x, tt) b q → (q ≡ f) × Says (P x.now) b)
    → YieldsList steps (λ y. y) s all → (r : Option ℕ) → Found steps g f s u r → FirstWith P all r
first_says {F = F} {g = g} {f = f} P calls road r found =
    let at : (x : ℕ) (b : Bool) (q : F) → CalledAt g f x b q → (q ≡ f) × Says (P x) b = λ x b q c. rw c.shows at (calls c.shown b q c.called) in
    first_from_find _ _ r P (λ y. P y → ⊥) found road (λ x q c. (at x true q c).1) (λ x q c. at x false q c)
