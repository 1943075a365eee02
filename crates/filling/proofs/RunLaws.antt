-- The run of one group's frames by rising repetition: the invariant of its state, and what it gives for the next frame.
-- The first free cycle is below the repetition, all cycles of the frame are free, and the slot is one of those needed.
-- Assumes nothing.
use mathlib.Core.Path.{◌≡◌, refl, sym, ap, ap₂, ◌∙◌}
use mathlib.Core.Bool.{Bool, true, false, cond}
use mathlib.Core.Logic.{⊎_elim, dite}
use Prim.Native.Nat.{ℕ, ◌+◌, ◌*◌, ◌/◌, ◌%◌, ◌≤◌, ◌<◌, zero-le}
use native.Mathlib.Nat.{mod-lt, mod-le, mod-mod, mod-add-div'}
use native.Mathlib.Decide.{dec_lt}
use native.Mathlib.Omega.{arith}
use borrow.Author.Tests.{ltb-true, ltb-false}
use lib.Dec.{ltb}
use Rattle.laws.specs.Sums.{sum, same}
use Rattle.laws.proofs.SumLaws.{same_cases, sum_ext, sum_le, sum_const, sum_add}
use Rattle.laws.proofs.RemainderLaws.{same_remainder}
use Rattle.terms.specs.declared.Frame.{Frame}
use Rattle.terms.specs.Ranges.{Repetition, FrameInRange}
use Rattle.terms.proofs.RepetitionLaws.{repetition_positive, repetition_multiple}
use Rattle.cycles.specs.Loads.{slots_for}
use Rattle.filling.specs.declared.UnitFrame.{UnitFrame}
use Rattle.filling.specs.Cycles.{takes, seek, first_free}
use Rattle.filling.specs.Runs.{State, start, next, goes_to, placed, after}
use Rattle.filling.proofs.CycleLaws.{takes_sum, share_positive, is_first_free}

-- behind k slots of others, where `left` of a load is to come and the last repetition was Q: no cycle is taken twice,
-- what is taken repeats after Q cycles, and the slots begun are full but for the current one's free cycles
pub record Good (Q k load left : ℕ) (s : State) : Type 0 where
  pub once : (c : ℕ) → s.cycles c ≤ 1
  pub again : (c : ℕ) → s.cycles c ≡ s.cycles (c % Q)
  pub part : left ≤ load
  pub full : 64 * k + load + 64 ≡ 64 * s.begun + sum s.cycles 64 + left

pub start_good : (Q k load : ℕ) → Good Q k load load (start k)
start_good Q k load = omega (arith, sum_const 1 64)

cycles_most : {Q k load left : ℕ} {s : State} → Good Q k load left s → sum s.cycles 64 ≤ 64
cycles_most {s = s} g = omega (arith, sum_le s.cycles (λ c. 1) 64 (λ c h. g.once c), sum_const 1 64)

-- where nothing is left the slots of the load are begun
pub end_reaches : {Q k load : ℕ} {s : State} → Good Q k load 0 s → k + slots_for load ≤ s.begun
end_reaches g = omega (arith, g.full, cycles_most g)

-- a larger repetition is a multiple of a smaller one
pub raised : {Q R k load left : ℕ} {s : State} → Repetition Q → Repetition R → Q ≤ R → Good Q k load left s
    → Good R k load left s
raised {Q} {R} {s = s} q r h g =
    let n = repetition_multiple Q R q r h in
    let shorter : (c : ℕ) → c % R % Q ≡ c % Q = λ c.
    same_remainder Q (c % R) c (c / R * n.0, 0, omega (arith, mod-add-div' c R, ap (λ (z : ℕ). c / R * z) n.1)) in
    record { once = g.once; again = λ c. rw (g.again c, g.again (c % R), shorter c); part = g.part; full = g.full }

-- ---- the slot that a frame goes to

pub data GoesTo (s : State) : State → Type 0 where
  stay : first_free s.cycles < 64 → GoesTo s s
  turn : 64 ≤ first_free s.cycles → GoesTo s (next s)

pub goes_case : (s : State) → GoesTo s (goes_to s)
unfolding goes_to
goes_case s = go (ltb (first_free s.cycles) 64) refl
  where
    go : (t : Bool) → ltb (first_free s.cycles) 64 ≡ t → GoesTo s (cond t s (next s))
    go true e = stay (ltb-true (first_free s.cycles) 64 e)
    go false e = turn (ltb-false (first_free s.cycles) 64 e)

pub goes_next : {s r : State} → GoesTo s r → (s.begun ≤ r.begun) × (r.begun ≤ s.begun + 1)
goes_next (stay h) = omega arith
goes_next (turn h) = omega arith

-- it has a free cycle
goes_free : {s r : State} → GoesTo s r → first_free r.cycles < 64
unfolding first_free seek
goes_free (stay h) = h
goes_free (turn h) = omega arith

goes_good : {Q k load left : ℕ} {s r : State} → Good Q k load left s → GoesTo s r → Good Q k load left r
goes_good g (stay h) = g
goes_good {s = s} g (turn h) =
    -- a slot with no free cycle is full
    let each : (c : ℕ) → c < 64 → s.cycles c ≡ 1 = λ c l.
    let taken : s.cycles c ≡ 0 → ⊥ = (is_first_free s.cycles).before c zero-le (omega arith) in
    omega (arith, g.once c) in
    omega (arith, g.part, g.full, sum_ext s.cycles (λ c. 1) 64 each, sum_const 1 64, sum_const 0 64)

-- ---- one frame

-- a frame behind k slots of others and within those of a load
pub record InSlots (k load : ℕ) (f : Frame) : Type 0 where
  pub past : k < f.slot
  pub frame : FrameInRange (k + slots_for load) f

-- the next frame is not in trouble: it goes into such slots, and all its cycles are free there
pub record Fits (k load : ℕ) (s : State) (f : UnitFrame) : Type 0 where
  pub inside : InSlots k load (placed s f).frame
  pub free : (c : ℕ) → c % f.repetition ≡ first_free (goes_to s).cycles → (goes_to s).cycles c ≡ 0

module _ (k load left : ℕ) (s : State) (f : UnitFrame) (seven : Repetition f.repetition)
    (good : Good f.repetition k load (64 / f.repetition + left) s)
  where
    abbrev R : ℕ
    R = f.repetition

    abbrev base : ℕ
    base = first_free (goes_to s).cycles

    here : Good R k load (64 / R + left) (goes_to s)
    here = goes_good good (goes_case s)

    found : (goes_to s).cycles base ≡ 0
    found = (is_first_free (goes_to s).cycles).found (goes_free (goes_case s))

    below_repetition : base < R
    below_repetition =
        dite (dec_lt (base % R) base)
        (λ l. absurd ((is_first_free (goes_to s).cycles).before (base % R) zero-le l (sym (here.again base) ∙ found)))
        (λ l. omega (arith, mod-lt base (repetition_positive R seven), mod-le base R))

    all_free : (c : ℕ) → c % R ≡ base → (goes_to s).cycles c ≡ 0
    all_free c e = here.again c ∙ ap (goes_to s).cycles e ∙ found

    added : sum (after s f).cycles 64 ≡ sum (goes_to s).cycles 64 + 64 / R
    added = sum_add (goes_to s).cycles (takes R base) 64 ∙ omega (arith, takes_sum R seven base below_repetition)

    pub after_good : Good R k load left (after s f)
    after_good =
        record {
          once = λ c.
              ⊎_elim (λ q. omega (arith, all_free c (sym q.0), q.1)) (λ q. omega (arith, here.once c, q.1))
              (same_cases base (c % R));
          again = λ c. ap₂ (λ (x y : ℕ). x + y) (here.again c) (ap (same base) (sym (mod-mod c R)));
          part = omega (arith, here.part);
          full = omega (arith, here.full, added);
        }

    pub fits : Fits k load s f
    fits =
        let share = share_positive R seven in
        let past : k < (goes_to s).begun = omega (arith, after_good.full, cycles_most after_good, here.part) in
        let slot : (1 ≤ (goes_to s).begun) × ((goes_to s).begun ≤ k + slots_for load) =
        omega (arith, after_good.full, added) in
        record {
          inside = record { past = past; frame = record { slot = slot; repetition = seven; base = below_repetition } };
          free = all_free;
        }
