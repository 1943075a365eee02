-- Laws of rows of refusals, once over any list of rows: which numbers and places come, one outcome only, and
-- a front of rows passed.
-- Assumes nothing.
use mathlib.Core.Path.{◌≡◌, ◌∙◌, sym}
use mathlib.Core.List.{List, [], ◌∷◌, ◌++◌}
use mathlib.Core.Logic.{inl, inr}
use Prim.Native.Nat.{ℕ, ◌≤◌}
use native.Mathlib.Omega.{arith}
use Rattle.laws.specs.Rows.{Row, FirstRow, Hold}

-- a fact of each row's number
abbrev pub EachNumber : (ℕ → Type 0) → List Row → Type 0
EachNumber P [] = Unit {0}
EachNumber P (r ∷ rs) = P r.number × EachNumber P rs

-- no row has number 0
abbrev pub Numbered : List Row → Type 0
Numbered = EachNumber (λ n. 1 ≤ n)

-- each row has one place at most
abbrev pub Single : List Row → Type 0
Single [] = Unit {0}
Single (r ∷ rs) = ((p q : ℕ) → r.place p → r.place q → p ≡ q) × Single rs

pub hold_join : (front rest : List Row) → Hold front → Hold rest → Hold (front ++ rest)
hold_join [] rest h k = k
hold_join (r ∷ rs) rest h k = (h.0, hold_join rs rest h.1 k)

pub hold_front : (front rest : List Row) → Hold (front ++ rest) → Hold front
hold_front [] rest h = tt
hold_front (r ∷ rs) rest h = (h.0, hold_front rs rest h.1)

pub hold_rest : (front rest : List Row) → Hold (front ++ rest) → Hold rest
hold_rest [] rest h = h
hold_rest (r ∷ rs) rest h = hold_rest rs rest h.1

-- two outcomes of one list of rows are the same
pub one_outcome : (rs : List Row) (done : ℕ → Type 0) → ((p q : ℕ) → done p → done q → p ≡ q) → Single rs
    → (m n p q : ℕ) → FirstRow rs done m p → FirstRow rs done n q → (m ≡ n) × (p ≡ q)
one_outcome [] done d s m n p q f g = (f.0 ∙ sym g.0, d p q f.1 g.1)
one_outcome (r ∷ rs) done d s m n p q (inl f) (inl g) = (f.1 ∙ sym g.1, s.0 p q f.2 g.2)
one_outcome (r ∷ rs) done d s m n p q (inl f) (inr g) = absurd (f.0 g.0)
one_outcome (r ∷ rs) done d s m n p q (inr f) (inl g) = absurd (g.0 f.0)
one_outcome (r ∷ rs) done d s m n p q (inr f) (inr g) = one_outcome rs done d s.1 m n p q f.1 g.1

-- two first rows have one number, whatever the places
pub one_number : (rs : List Row) (done : ℕ → Type 0) (m n p q : ℕ) → FirstRow rs done m p → FirstRow rs done n q → m ≡ n
one_number [] done m n p q f g = f.0 ∙ sym g.0
one_number (r ∷ rs) done m n p q (inl f) (inl g) = f.1 ∙ sym g.1
one_number (r ∷ rs) done m n p q (inl f) (inr g) = absurd (f.0 g.0)
one_number (r ∷ rs) done m n p q (inr f) (inl g) = absurd (g.0 f.0)
one_number (r ∷ rs) done m n p q (inr f) (inr g) = one_number rs done m n p q f.1 g.1

module _ (done : ℕ → Type 0) (n p : ℕ) where
  -- 0 exactly where all rows hold
  pub zero_holds : (rs : List Row) → Numbered rs → FirstRow rs done n p → n ≡ 0 → Hold rs × done p
  zero_holds [] k f e = (tt, f.1)
  zero_holds (r ∷ rs) k (inl f) e = absurd (omega (arith, k.0, f.1))
  zero_holds (r ∷ rs) k (inr f) e = let t = zero_holds rs k.1 f.1 e in ((f.0, t.0), t.1)

  pub holds_zero : (rs : List Row) → Hold rs → FirstRow rs done n p → (n ≡ 0) × done p
  holds_zero [] h f = f
  holds_zero (r ∷ rs) h (inl f) = absurd (f.0 h.0)
  holds_zero (r ∷ rs) h (inr f) = holds_zero rs h.1 f.1

  pub not_zero_fails : (rs : List Row) → FirstRow rs done n p → (n ≡ 0 → ⊥) → Hold rs → ⊥
  not_zero_fails rs f k h = k (holds_zero rs h f).0

-- a front of rows that hold may be passed, and one that does not decides
module _ (rest : List Row) (done : ℕ → Type 0) (n p : ℕ) where
  pub pass : (front : List Row) → Hold front → FirstRow rest done n p → FirstRow (front ++ rest) done n p
  pass [] h f = f
  pass (r ∷ rs) h f = inr (h.0, pass rs h.1 f)

  pub past : (front : List Row) → Hold front → FirstRow (front ++ rest) done n p → FirstRow rest done n p
  past [] h f = f
  past (r ∷ rs) h (inl f) = absurd (f.0 h.0)
  past (r ∷ rs) h (inr f) = past rs h.1 f.1

  -- a refusal by the front is one whatever is asked after
  pub refused_front : (front : List Row) (other : ℕ → Type 0) → (n ≡ 0 → ⊥) → FirstRow front other n p
      → FirstRow (front ++ rest) done n p
  refused_front [] other z f = absurd (z f.0)
  refused_front (r ∷ rs) other z (inl f) = inl f
  refused_front (r ∷ rs) other z (inr f) = inr (f.0, refused_front rs other z f.1)

  -- and what refuses by the front refuses so whatever else is asked after
  pub same_front : (front other : List Row) (also : ℕ → Type 0) → (Hold front → ⊥) → FirstRow (front ++ rest) done n p
      → FirstRow (front ++ other) also n p
  same_front [] other also h f = absurd (h tt)
  same_front (r ∷ rs) other also h (inl f) = inl f
  same_front (r ∷ rs) other also h (inr f) = inr (f.0, same_front rs other also (λ k. h (f.0, k)) f.1)

pub numbered_join : (front rest : List Row) → Numbered front → Numbered rest → Numbered (front ++ rest)
numbered_join [] rest k l = l
numbered_join (r ∷ rs) rest k l = (k.0, numbered_join rs rest k.1 l)

pub single_join : (front rest : List Row) → Single front → Single rest → Single (front ++ rest)
single_join [] rest k l = l
single_join (r ∷ rs) rest k l = (k.0, single_join rs rest k.1 l)

-- a front that does not hold gives one of its own numbers
pub front_number : (P : ℕ → Type 0) (front rest : List Row) (done : ℕ → Type 0) (n p : ℕ) → EachNumber P front → (Hold front → ⊥)
    → FirstRow (front ++ rest) done n p → P n
front_number P [] rest done n p k h f = absurd (h tt)
front_number P (r ∷ rs) rest done n p k h (inl f) = rw f.1 k.0
front_number P (r ∷ rs) rest done n p k h (inr f) = front_number P rs rest done n p k.1 (λ g. h (f.0, g)) f.1

-- a fact of each row's place, where the rows before it hold
abbrev pub EachPlace : (ℕ → Type 0) → List Row → Type 0
EachPlace P [] = Unit {0}
EachPlace P (r ∷ rs) = ((p : ℕ) → r.place p → P p) × (r.holds → EachPlace P rs)

-- what holds of each place of a front, and of what comes of the rest, holds of the place given
pub place_has : (P : ℕ → Type 0) (front rest : List Row) (done : ℕ → Type 0) (n p : ℕ) → EachPlace P front
    → (Hold front → FirstRow rest done n p → P p) → FirstRow (front ++ rest) done n p → P p
place_has P [] rest done n p each last f = last tt f
place_has P (r ∷ rs) rest done n p each last (inl f) = each.0 p f.2
place_has P (r ∷ rs) rest done n p each last (inr f) =
    place_has P rs rest done n p (each.1 f.0) (λ h. last (f.0, h)) f.1
