-- What the operations on words do to the cycles: a pattern shifted to a base, a mask tested and a mask taken.
-- Assumes nothing.
use mathlib.Core.Path.{◌≡◌, ap, ◌∙◌}
use mathlib.Core.Logic.{dite}
use Prim.Native.Nat.{ℕ, ◌+◌, ◌-◌, ◌*◌, ◌%◌, ◌^◌, ◌≤◌, ◌<◌}
use native.Mathlib.Decide.{dec_le}
use native.Mathlib.Omega.{arith}
use lib.Bits.{bit_and, and_le_r}
use native.Mathlib.Nat.{lt_of_le_of_lt}
use Rattle.terms.specs.Ranges.{Repetition}
use Rattle.cycles.specs.declared.Slot.{Slot}
use Rattle.cycles.specs.Bits.{bit, Shows, Mask}
use Rattle.cycles.proofs.BitLaws.{bit_lt, bit_of_and, bit_not, bit_kept, bit_shifted, bit_shifted_out, equal_by_bits}
use Rattle.cycles.proofs.MaskLaws.{shows_iff, shows_never, is_set, bit_of, shows_without, shows_itself}
use Rattle.cycles.specs.Frames.{Multiple, Names}
use Rattle.cycles.specs.Slots.{AllFree, Free}

-- `pattern << base`
pub shifted : (p : ℕ) {R b : ℕ} → Repetition R → b < R → Mask p (Multiple R) → Mask (p * 2 ^ b % 2 ^ 64) (Names R b)
shifted p {R} {b} r h m c l =
    rw (bit_kept (p * 2 ^ b) 64 c l) (dite (dec_le b c) from
    (λ g. shows_never _ (bit_shifted_out p b c (omega arith)) (λ n. omega (arith, n.again.1))))
  where
    from : b ≤ c → Shows (Names R b c) (bit (p * 2 ^ b) c)
    from g =
        let e : c ≡ c - b + b = omega arith in
        rw (ap (bit (p * 2 ^ b)) e ∙ bit_shifted p b (c - b)) (shows_iff
        (λ q. record { repetition = r; base = h; again = (q.multiple.0, omega (arith, q.multiple.1)) })
        (λ n. record { repetition = r; multiple = (n.again.0, omega (arith, n.again.1)) })
        (m (c - b) (omega arith)))

module _ (s : Slot) (R b m : ℕ) (mask : Mask m (Names R b)) where
  -- `free & cycles == cycles`
  pub all_free : bit_and s.free m ≡ m → AllFree s R b
  all_free e c l n =
      omega (arith, bit_of (mask c l) n, rw e at (bit_of_and s.free m c), bit_lt s.free c)

  pub mask_free : m < 2 ^ 64 → AllFree s R b → bit_and s.free m ≡ m
  mask_free h a =
      equal_by_bits 64 (bit_and s.free m) m (lt_of_le_of_lt (and_le_r s.free m) h) h
      (λ c l. bit_of_and s.free m c ∙ dite (dec_le 1 (bit m c))
      (λ g. omega (arith, bit_lt m c, a c l (is_set (mask c l) (omega (arith, bit_lt m c))))) (λ g. omega arith))

  -- `free & !cycles`
  pub left_free : m < 2 ^ 64 → Mask (bit_and s.free (2 ^ 64 - 1 - m)) (λ c. Free s c × (Names R b c → ⊥))
  left_free h c l =
      rw bit_of_and (shows_without _ (shows_itself _ (bit_lt s.free c)) (mask c l) (bit_not 64 m c h l))
