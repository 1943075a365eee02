-- Laws of words stored one after the other: the length stays, each word stands at its place, and all others stay.
-- Assumes nothing.
use mathlib.Core.Path.{◌≡◌, refl, sym, ap, ◌∙◌}
use mathlib.Core.List.{List, [], ◌∷◌}
use Prim.Native.Nat.{ℕ, zero, suc, ◌+◌, ◌≤◌, ◌<◌}
use native.Mathlib.Nat.{add-zero}
use native.Mathlib.Omega.{arith}
use lib.ListN.{length, get_or, set, length-set}
use lib.Seq.{get_or-set_same, get_or-set_other}
use Rattle.laws.specs.Stored.{stored_from, stored}

pub set_past : (l : List ℕ) (i x : ℕ) → length l ≤ i → set l i x ≡ l
set_past [] i x h = refl
set_past (y ∷ l) zero x h = absurd (omega arith)
set_past (y ∷ l) (suc i) x h = ap (λ (t : List ℕ). y ∷ t) (set_past l i x (omega arith))

from_length : (l : List ℕ) (at d : ℕ) (ws : List ℕ) → length (stored_from l at d ws) ≡ length l
unfolding stored_from
from_length l at d [] = refl
from_length l at d (w ∷ ws) = from_length (set l (at + d) w) at (suc d) ws ∙ length-set l (at + d) w

from_others : (l : List ℕ) (at d : ℕ) (ws : List ℕ) (j : ℕ) → ((at + d ≤ j) × (j < at + d + length ws) → ⊥)
    → get_or (stored_from l at d ws) j 0 ≡ get_or l j 0
unfolding stored_from
from_others l at d [] j n = refl
from_others l at d (w ∷ ws) j n =
    from_others (set l (at + d) w) at (suc d) ws j (λ h. n (omega arith)) ∙ get_or-set_other l (at + d) j w 0 (λ e. n (omega arith))

from_word : (l : List ℕ) (at d : ℕ) (ws : List ℕ) (e : ℕ) → e < length ws → at + d + length ws ≤ length l
    → get_or (stored_from l at d ws) (at + d + e) 0 ≡ get_or ws e 0
unfolding stored_from
from_word l at d [] e h room = absurd (omega arith)
from_word l at d (w ∷ ws) zero h room =
    rw add-zero (from_others (set l (at + d) w) at (suc d) ws (at + d) (λ q. omega arith)
    ∙ get_or-set_same l (at + d) w 0 (omega arith))
from_word l at d (w ∷ ws) (suc e) h room =
    let same : at + d + suc e ≡ at + suc d + e = omega arith in
    rw same (from_word (set l (at + d) w) at (suc d) ws e (omega arith) (omega (arith, length-set l (at + d) w)))

module _ (l : List ℕ) (at : ℕ) (ws : List ℕ) where
  pub stored_length : length (stored l at ws) ≡ length l
  stored_length = from_length l at 0 ws

  pub stored_others : (j : ℕ) → ((at ≤ j) × (j < at + length ws) → ⊥) → get_or (stored l at ws) j 0 ≡ get_or l j 0
  stored_others j n = from_others l at 0 ws j (λ h. n (omega arith))

  pub stored_word : (d : ℕ) → d < length ws → at + length ws ≤ length l → get_or (stored l at ws) (at + d) 0 ≡ get_or ws d 0
  stored_word d h room =
      ap (λ (k : ℕ). get_or (stored l at ws) (k + d) 0) (sym (add-zero at)) ∙ from_word l at 0 ws d h (omega arith)
