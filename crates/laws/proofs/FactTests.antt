-- Tests that antt computes, each with the fact that it shows where it passes; joined part by part.
use mathlib.Core.Path.{◌≡◌}
use mathlib.Core.Bool.{Bool, true, false, not}
use Prim.Native.Nat.{ℕ, ◌≤◌, ◌<◌}
use lib.Dec.{T, eqb, leb, ltb, leb→le, ltb→lt, eqb→eq}
use Rattle.laws.specs.Says.{Says}
use Rattle.laws.proofs.Tests.{both, both_left, both_right}

abbrev pub Test : Type 0 → Type 0
Test P = (b : Bool) × (T b → P)

abbrev pub passing : {P : Type 0} → P → Test P
passing p = (true, λ t. p)

abbrev pub at_most : (a b : ℕ) → Test (a ≤ b)
at_most a b = (leb a b, leb→le a b)

abbrev pub less : (a b : ℕ) → Test (a < b)
less a b = (ltb a b, ltb→lt a b)

abbrev pub equal : (a b : ℕ) → Test (a ≡ b)
equal a b = (eqb a b, eqb→eq a b)

abbrev pub join : {P Q : Type 0} → Test P → Test Q → Test (P × Q)
join p q = (both p.0 q.0, λ t. (p.1 (both_left p.0 q.0 t), q.1 (both_right p.0 q.0 t)))

abbrev pub shown : {P Q : Type 0} → (P → Q) → Test P → Test Q
shown f p = (p.0, λ t. f (p.1 t))

-- a flag that says a fact shows it where it passes, and the contrary where it does not
pub said_true : {P : Type 0} (b : Bool) → Says P b → T b → P
said_true true s t = s
said_true false s t = absurd t

pub said_false : {P : Type 0} (b : Bool) → Says P b → T (not b) → P → ⊥
said_false true s t = absurd t
said_false false s t = s
