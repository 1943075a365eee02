-- "Releases fall exactly at offset plus whole periods, for ever." And table and clock are one: the starts of a frame
-- are the cycles that its base and repetition name, the 64 cycles of a table coming again for ever.
-- Assumes nothing.
use mathlib.Core.Path.{refl, ◌≡◌, ◌∙◌, sym, ap}
use mathlib.Core.Logic.{dite, ◌↔◌}
use mathlib.Core.List.{List}
use Prim.Native.Nat.{ℕ, suc, ◌+◌, ◌*◌, ◌≤◌, ◌<◌, ◌-◌, ◌/◌, ◌%◌}
use native.Mathlib.Decide.{dec_le}
use native.Mathlib.Nat.{lt_of_not-le, mul-le-mul_left, mul-le-mul_right, mod-add-div', mod-lt}
use native.Mathlib.Omega.{arith}
use lib.Dec.{lit≤}
use Rattle.laws.specs.Lowest.{Between}
use Rattle.laws.proofs.RemainderLaws.{same_remainder, splits_remainder}
use Rattle.terms.specs.declared.Settings.{Settings}
use Rattle.terms.specs.declared.Frame.{Frame}
use Rattle.terms.specs.Ranges.{Repetition, FrameInRange}
use Rattle.terms.proofs.RepetitionLaws.{repetition_most, repetition_multiple}
use Rattle.age.specs.Age.{Start, first_start, span_of}
use Rattle.cycles.specs.Frames.{Sends}
use Rattle.cycles.proofs.FrameLaws.{named_remainder, remainder_named}
use Rattle.filling.specs.Shown.{cell_of}
use Rattle.promises.specs.Demand2.{Releases, StartsAt}

pub releases : (offset period : ℕ) → 1 ≤ period → Releases offset period
releases offset period h =
    record {
      first = (0, omega arith);
      none_before = λ r e. omega (arith, e.1);
      next = λ r e. (suc e.0, omega (arith, e.1));
      none_between = λ r q e f l. omega (arith, e.1, f.1, apart e.0 f.0 (omega (arith, e.1, f.1, l)));
      for_ever = λ t. (offset + t * period, (t, refl), omega (arith, mul-le-mul_left t h));
    }
  where
    apart : (m n : ℕ) → offset + m * period < offset + n * period → offset + m * period + period ≤ offset + n * period
    apart m n l =
        dite (dec_le n m) (λ k. absurd (omega (arith, mul-le-mul_right period k)))
        (λ k. omega (arith, mul-le-mul_right period (lt_of_not-le k)))

-- a repetition divides 64, so a cycle and its remainder by 64 leave the same by it
same_cycle : (R n : ℕ) → Repetition R → n % 64 % R ≡ n % R
same_cycle R n r =
    let q = repetition_multiple R 64 r (6, lit≤ tt, refl) (repetition_most R r) in
    same_remainder R (n % 64) n (n / 64 * q.0, 0, omega (arith, mod-add-div' n 64, ap (λ (z : ℕ). n / 64 * z) q.1))

-- a frame goes out in the cycle of its base, which is one of the 64
pub base_sent : {n : ℕ} {f : Frame} → FrameInRange n f → (f.base < 64) × Sends f f.slot f.base
base_sent {n} {f} h = (
  omega (arith, h.base, repetition_most f.repetition h.repetition),
  (refl, record { repetition = h.repetition; base = h.base; again = (0, omega arith) }),
)

module _ (s : Settings) (f : Frame) (h : FrameInRange s.slots f) where
  pub starts_named : (t : ℕ) → Start (first_start s f) (span_of s f) t ↔ StartsAt s (Sends f) t
  starts_named t =
      let R = f.repetition in (
        (λ start.
            let n = f.base + start.0 * R in
            let left = same_cycle R n h.repetition ∙ splits_remainder R f.base start.0 h.base in
            (n, f.slot, (refl, remainder_named h.repetition h.base left), omega (arith, start.1))),
        λ (n, k, (slot, names), e).
            let left = sym (same_cycle R n h.repetition) ∙ named_remainder names in
            let whole : n ≡ f.base + n / R * R = omega (arith, left, mod-add-div' n R) in
            (n / R, omega (arith, e, ap (λ (z : ℕ). z * s.cycle) whole, ap (λ (z : ℕ). (z - 1) * s.slot) slot)),
      )

-- so where cells show the frames of m signals, their starts are the cells that show them
module _ (s : Settings) (m : ℕ) (frame : ℕ → Frame) (cells : List ℕ) (frames : (i : ℕ) → Between 1 m i → FrameInRange s.slots (frame i))
    (shown : (k c i : ℕ) → Between 1 s.slots k → c < 64 → Between 1 m i → (cell_of cells k c ≡ i) ↔ Sends (frame i) k c) where
  pub starts_shown : (i t : ℕ) → Between 1 m i
      → Start (first_start s (frame i)) (span_of s (frame i)) t ↔ StartsAt s (λ k c. Between 1 s.slots k × (cell_of cells k c ≡ i)) t
  starts_shown i t b =
      let named = starts_named s (frame i) (frames i b) t in (
        (λ start.
            let at = named.0 start in
            let k : Between 1 s.slots at.1 = omega (arith, (frames i b).slot, at.2.0) in
            (at.0, at.1, (k, (shown at.1 (at.0 % 64) i k (mod-lt at.0 (lit≤ tt)) b).1 at.2), at.3)),
        λ at. named.1 (at.0, at.1, (shown at.1 (at.0 % 64) i at.2.0 (mod-lt at.0 (lit≤ tt)) b).0 at.2.1, at.3),
      )
