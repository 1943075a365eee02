-- Laws of `Says`: how a flag comes to say a fact, and what a test of the flag learns.
use mathlib.Core.Path.{◌≡◌, refl}
use mathlib.Core.Bool.{Bool, true, false, not, true≢false, false≢true}
use Rattle.laws.specs.Says.{Says}

-- a flag says the fact that each of its two values decides
pub says : {P : Type 0} (b : Bool) → (b ≡ true → P) → (b ≡ false → P → ⊥) → Says P b
says true holds fails = holds refl
says false holds fails = fails refl

-- what a flag says of one fact it says of an equivalent one
pub says_same : {P Q : Type 0} (b : Bool) → (P → Q) → (Q → P) → Says P b → Says Q b
says_same true to back s = to s
says_same false to back s = λ q. s (back q)

-- `if flag` taken, and left
pub said : {P : Type 0} (b : Bool) → Says P b → b ≡ true → P
said true s e = s
said false s e = absurd (false≢true e)

pub denied : {P : Type 0} (b : Bool) → Says P b → b ≡ false → P → ⊥
denied true s e = absurd (true≢false e)
denied false s e = s

-- `if !flag` left, and taken
pub granted : {P : Type 0} (b : Bool) → Says P b → not b ≡ false → P
granted true s e = s
granted false s e = absurd (true≢false e)

pub refused : {P : Type 0} (b : Bool) → Says P b → not b ≡ true → P → ⊥
refused true s e = absurd (false≢true e)
refused false s e = s

-- two flags that say the same fact are equal
pub says_unique : (P : Type 0) (a b : Bool) → Says P a → Says P b → a ≡ b
says_unique P true true p q = refl
says_unique P true false p q = absurd (q p)
says_unique P false true p q = absurd (p q)
says_unique P false false p q = refl
