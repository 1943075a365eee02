-- For each public routine: two outcomes that its contract allows are equal. A word of the machine is below 2^64.
-- Assumes nothing.
use mathlib.Core.Path.{◌≡◌, refl, sym, ap, ◌∙◌}
use mathlib.Core.Bool.{Bool}
use Prim.Native.Nat.{ℕ, ◌^◌, ◌<◌}
use native.Mathlib.Omega.{arith}
use Rattle.std.specs.Prelude.{Option, Some, None, IfSome, unwrap_or}
use Rattle.laws.specs.Says.{Says}
use Rattle.laws.proofs.SaysLaws.{says_unique}
use Rattle.cycles.specs.declared.Tally.{Tally}
use Rattle.cycles.specs.declared.Slot.{Slot}
use Rattle.cycles.specs.Bits.{Mask}
use Rattle.cycles.proofs.BitLaws.{equal_by_bits}
use Rattle.cycles.proofs.MaskLaws.{mask_unique}
use Rattle.cycles.specs.Frames.{Multiple, Names}
use Rattle.cycles.specs.Loads.{Tallied, slots_for}
use Rattle.cycles.specs.Loads.Tallied.{added, past, other}
use Rattle.cycles.specs.Slots.{Free, Fresh, FirstFree, AllFree, FrameTaken}

pub pattern_unique : (R a b : ℕ) → a < 2 ^ 64 → b < 2 ^ 64 → Mask a (Multiple R) → Mask b (Multiple R) → a ≡ b
pattern_unique R = mask_unique (Multiple R)

pub cycles_of_unique : (R base a b : ℕ) → a < 2 ^ 64 → b < 2 ^ 64 → Mask a (Names R base) → Mask b (Names R base)
    → a ≡ b
cycles_of_unique R base = mask_unique (Names R base)

tallied_unique : {load R a b : ℕ} → Tallied load R a → Tallied load R b → a ≡ b
tallied_unique (added r h) (added s k) = refl
tallied_unique (added r h) (past s k) = omega arith
tallied_unique (added r h) (other s) = absurd (s r)
tallied_unique (past r h) (added s k) = omega arith
tallied_unique (past r h) (past s k) = refl
tallied_unique (past r h) (other s) = refl
tallied_unique (other r) (added s k) = absurd (r s)
tallied_unique (other r) (past s k) = refl
tallied_unique (other r) (other s) = refl

pub add_unique : (t : Tally) (R : ℕ) (a b : Tally) → Tallied t.load R a.load → Tallied t.load R b.load → a ≡ b
add_unique t R a b p q = let e = tallied_unique p q in λ i. record { load = e i }

pub slots_unique : (t : Tally) (a b : ℕ) → a ≡ slots_for t.load → b ≡ slots_for t.load → a ≡ b
slots_unique t a b p q = p ∙ sym q

same_slot : (a b : Slot) → a.unit ≡ b.unit → a.free ≡ b.free → a ≡ b
same_slot a b p q = λ i. record { unit = p i; free = q i }

pub fresh_unique : (u : ℕ) (a b : Slot) → a.free < 2 ^ 64 → b.free < 2 ^ 64 → Fresh u a → Fresh u b → a ≡ b
fresh_unique u a b ha hb p q =
    same_slot a b (p.unit ∙ sym q.unit)
    (equal_by_bits 64 a.free b.free ha hb (λ c l. p.free c l ∙ sym (q.free c l)))

not_before : {s : Slot} {a b : ℕ} → FirstFree s a → FirstFree s b → a < b → ⊥
not_before {a = a} p q h = q.before a h (p.found (omega (arith, q.within)))

pub one_first_free : (s : Slot) (a b : ℕ) → FirstFree s a → FirstFree s b → a ≡ b
one_first_free s a b p q = omega (arith, not_before p q, not_before q p)

pub first_free_unique : (s : Slot) (a b : Option ℕ) → FirstFree s (unwrap_or a 64) → IfSome a (λ c. c < 64)
    → FirstFree s (unwrap_or b 64) → IfSome b (λ c. c < 64) → a ≡ b
first_free_unique s None None p l q k = refl
first_free_unique s None (Some d) p l q k = absurd (omega (arith, one_first_free s 64 d p q))
first_free_unique s (Some c) None p l q k = absurd (omega (arith, one_first_free s c 64 p q))
first_free_unique s (Some c) (Some d) p l q k = ap Some (one_first_free s c d p q)

pub all_free_unique : (s : Slot) (R base : ℕ) (a b : Bool) → Says (AllFree s R base) a → Says (AllFree s R base) b
    → a ≡ b
all_free_unique s R base = says_unique (AllFree s R base)

module _ (s : Slot) (R base : ℕ) (a b : Slot) (ha : a.free < 2 ^ 64) (hb : b.free < 2 ^ 64) where
  pub take_unique : FrameTaken s R base a → FrameTaken s R base b → a ≡ b
  take_unique p q =
      same_slot a b (p.unit ∙ sym q.unit)
      (mask_unique (λ c. Free s c × (Names R base c → ⊥)) a.free b.free ha hb p.free q.free)

  -- the slot lent, at exit
  pub clear_unique : FrameTaken s R base a → FrameTaken s R base b → a ≡ b
  clear_unique = take_unique
