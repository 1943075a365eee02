-- Laws of answers: an answer is known by its number and its place, so rows give one answer, and one only.
-- Assumes nothing.
use mathlib.Core.Path.{◌≡◌, refl, sym, ap₂, subst, ◌∙◌}
use mathlib.Core.Bool.{cond}
use mathlib.Core.List.{List, [], ◌∷◌, ◌++◌}
use mathlib.Core.Logic.{inl, inr}
use Prim.Native.Nat.{ℕ}
use lib.Dec.{eqb}
use Rattle.laws.specs.Rows.{Row, FirstRow}
use Rattle.laws.proofs.RowLaws.{Single, one_outcome}
use Rattle.std.specs.Prelude.{Ok, Err}
use Rattle.terms.specs.declared.Refusal.{Refusal}
use Rattle.terms.specs.declared.Refusal.TheVariants.{Length, Check, Kind, Count, Zero, Setting, Field, Bound, Slots, Room, Taken}
use Rattle.terms.specs.Answers.{Answer, refusal_number, refusal_place, number_of, place_of, Answers}

-- the refusal of a number and a place, and the answer
refusal_of : ℕ → ℕ → Refusal
refusal_of n p =
    cond (eqb n 1) Length (
    cond (eqb n 2) (Check p) (
    cond (eqb n 3) (Kind p) (
    cond (eqb n 4) Count (
    cond (eqb n 5) (Zero p) (
    cond (eqb n 6) (Setting p) (
    cond (eqb n 7) (Field p) (
    cond (eqb n 8) (Bound p) (
    cond (eqb n 9) (Slots p) (
    cond (eqb n 10) (Room p) (
    Taken p))))))))))

answer_of : ℕ → ℕ → Answer
answer_of n p = cond (eqb n 0) (Ok p) (Err (refusal_of n p))

known : (a : Answer) → answer_of (number_of a) (place_of a) ≡ a
unfolding answer_of refusal_of
known (Ok p) = refl
known (Err Length) = refl
known (Err (Check p)) = refl
known (Err (Kind p)) = refl
known (Err Count) = refl
known (Err (Zero p)) = refl
known (Err (Setting p)) = refl
known (Err (Field p)) = refl
known (Err (Bound p)) = refl
known (Err (Slots p)) = refl
known (Err (Room p)) = refl
known (Err (Taken p)) = refl

pub answer_known : (a b : Answer) → number_of a ≡ number_of b → place_of a ≡ place_of b → a ≡ b
answer_known a b d e = sym (known a) ∙ ap₂ answer_of d e ∙ known b

-- a refusal's number is not 0
pub refusal_numbered : (e : Refusal) → refusal_number e ≡ 0 → ⊥
refusal_numbered e z =
    let done : Err e ≡ Ok (refusal_place e) = answer_known (Err e) (Ok (refusal_place e)) z refl in
    cc done

pub answers_unique : (rs : List Row) (done : ℕ → Type 0) → ((p q : ℕ) → done p → done q → p ≡ q) → Single rs
    → (a b : Answer) → Answers rs done a → Answers rs done b → a ≡ b
answers_unique rs done one single a b f g =
    let t = one_outcome rs done one single (number_of a) (number_of b) (place_of a) (place_of b) f g in
    answer_known a b t.0 t.1

-- ---- every outcome of rows is some answer's

-- each row's number and place are those of an answer
abbrev pub Answerable : List Row → Type 0
Answerable [] = Unit {0}
Answerable (r ∷ rs) = ((p : ℕ) → r.place p → (a : Answer) × (number_of a ≡ r.number) × (place_of a ≡ p)) × Answerable rs

pub answerable_join : (front rest : List Row) → Answerable front → Answerable rest → Answerable (front ++ rest)
answerable_join [] rest k l = l
answerable_join (r ∷ rs) rest k l = (k.0, answerable_join rs rest k.1 l)

pub answer_exists : (rs : List Row) (done : ℕ → Type 0) (n p : ℕ) → Answerable rs → FirstRow rs done n p → (a : Answer) × Answers rs done a
answer_exists [] done n p k (e, d) = (Ok p, (refl, d))
answer_exists (r ∷ rs) done n p k (inl (f, e, q)) =
    let b = k.0 p q in (b.0, inl (f, b.1, subst r.place (sym b.2) q))
answer_exists (r ∷ rs) done n p k (inr (h, f)) =
    let b = answer_exists rs done n p k.1 f in (b.0, inr (h, b.1))
