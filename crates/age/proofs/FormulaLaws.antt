-- Laws of the formula: how a longest wait is recognised, that equations 6 and 7 give it, and that both are unique.
use mathlib.Core.Path.{◌≡◌, ◌∙◌, ap}
use Prim.Native.Nat.{ℕ, ◌+◌, ◌*◌, ◌-◌, ◌/◌, ◌%◌, ◌≤◌, ◌<◌}
use native.Mathlib.Nat.{add-mod-mod, mod-add-div', mod-lt, mul-le-mul_right, lt_of_mul-lt-mul_right, add-mod_right}
use native.Mathlib.Omega.{arith}
use Rattle.laws.specs.Divisor.{Divides}
use Rattle.laws.proofs.Orders.{factors_positive}
use Rattle.laws.proofs.RemainderLaws.{same_remainder, splits_remainder, rounded_up_lem}
use Rattle.age.specs.Formula.{Remainder, Longest, rounded_up, p_max}

-- d and a multiple of g, less than g below the limit
pub longest_by : (limit g d q w : ℕ) → d < g → w ≡ d + q * g → w < limit → limit ≤ w + g → Longest limit g d w
longest_by limit g d q w h e b t = record { below = b; leaves = rw e (splits_remainder g d q h); largest = within }
  where
    within : (v : ℕ) → v < limit → v % g ≡ d → v ≤ w
    within v l r =
        let split = mod-add-div' v g in
        let few : v / g < q + 1 = lt_of_mul-lt-mul_right g (omega arith) in
        let most : v / g ≤ q = omega arith in
        omega (arith, mul-le-mul_right g most)

-- the limit is at most g above the longest wait
pub longest_top : (limit g d w : ℕ) → 0 < g → Longest limit g d w → limit ≤ w + g
longest_top limit g d w h l =
    let never : w + g < limit → ⊥ = λ k. omega (arith, l.largest (w + g) k (add-mod_right w g ∙ l.leaves)) in
    omega arith

pub longest_unique : (limit g d v w : ℕ) → Longest limit g d v → Longest limit g d w → v ≡ w
longest_unique limit g d v w p q = omega (arith, q.largest v p.below p.leaves, p.largest w q.below q.leaves)

-- from the top down: what the limit less 1 leaves above d by g is taken off
pub longest_from_top : (limit g d : ℕ) → d < g → d < limit → Longest limit g d (limit - 1 - (limit - 1 - d) % g)
longest_from_top limit g d h k =
    let split = mod-add-div' (limit - 1 - d) g in
    let less = mod-lt (limit - 1 - d) {m = g} (omega arith) in
    longest_by limit g d ((limit - 1 - d) / g) _ h (omega arith) (omega arith) (omega arith)

-- equations 6 and 7, without the slot length
pub paper_longest : (packing span g d : ℕ) → d < g → g ≤ span → Longest (packing + span) g d (p_max packing span g d * g + d)
paper_longest packing span g d h k =
    let q = rounded_up (packing + span - d) g in
    let up = rounded_up_lem (packing + span - d) g (omega arith) in
    let one : 1 + (q - 1) ≡ q = omega (arith, factors_positive q g (omega arith)) in
    let less = ap (λ (i : ℕ). i * g) one in
    longest_by (packing + span) g d (q - 1) _ h (omega arith) (omega arith) (omega arith)

-- the remainder that follows no sign: what the offset lacks of a multiple of g is added to the first start
pub remainder_ahead : (first offset g : ℕ) → 0 < g → Remainder first offset g ((first + (g - offset % g)) % g)
remainder_ahead first offset g h =
    let split = mod-add-div' offset g in
    let less = mod-lt offset h in
    record { below = mod-lt _ h; remains = rw add-mod-mod (same_remainder g _ _ (0, offset / g + 1, omega arith)) }

-- the same, of what a multiple of g has above the offset
pub remainder_of_multiple : (first offset period g : ℕ) → 0 < g → Divides g period → offset ≤ period
    → Remainder first offset g ((first + (period - offset)) % g)
remainder_of_multiple first offset period g h (m, e) l =
    record { below = mod-lt _ h; remains = rw add-mod-mod (same_remainder g _ _ (0, m, omega arith)) }
