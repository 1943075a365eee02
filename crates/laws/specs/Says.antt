-- What a flag says of a fact: that it holds where the flag is true, and that it does not where it is false.
use Rattle.std.specs.Prelude.{Bool, true, false}

abbrev pub Says : Type 0 → Bool → Type 0
Says P true = P
Says P false = P → ⊥
