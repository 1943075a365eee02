-- The loop over signals: each is tallied in its group's load.
-- Assumes nothing.
use mathlib.Core.Path.{◌≡◌, sym, ap, ◌∙◌}
use mathlib.Core.List.{List}
use mathlib.Core.Logic.{dite}
use Prim.Native.Nat.{ℕ, ◌+◌, ◌*◌, ◌/◌, ◌≤◌, ◌<◌}
use native.Mathlib.Decide.{ℕ_discrete}
use native.Mathlib.Omega.{arith}
use lib.ListN.{length, get_or, set, replicate, length-set, length-replicate, get_or-replicate}
use lib.Seq.{get_or-set_same, get_or-set_other}
use Rattle.laws.specs.Sums.{same}
use Rattle.laws.proofs.SumLaws.{same_equal, same_apart, sum_none, sum_more}
use Rattle.terms.specs.Ranges.{Repetition}
use Rattle.terms.specs.Lists.{groups}
use Rattle.cycles.specs.declared.Tally.{Tally}
use Rattle.cycles.specs.Loads.{most_load, Tallied}
use Rattle.cycles.specs.Loads.Tallied.{added, past, other}
use Rattle.filling.specs.Filled.{group_load}
use Rattle.filling.proofs.LoadLaws.{load_most}

tallied_added : {load R r : ℕ} → Tallied load R r → Repetition R → load + 64 / R ≤ most_load → r ≡ load + 64 / R
tallied_added (added q h) s l = omega arith
tallied_added (past q h) s l = absurd (omega arith)
tallied_added (other n) s l = absurd (n s)

-- no load
abbrev pub empty : Tally
empty = record { load = 0 }

module _ (group R : ℕ → ℕ) where
  -- what signal 1 + i adds to the load of a group
  abbrev share : (g i : ℕ) → ℕ
  share g i = same (group (1 + i)) g * (64 / R (1 + i))

  -- the first i signals are tallied
  pub record Tallying (loads : List Tally) (i : ℕ) : Type 0 where
    pub whole : length loads ≡ groups
    pub tallied : (g : ℕ) → g < groups → (get_or loads g empty).load ≡ group_load group R i g

  pub tallying_none : Tallying (replicate groups empty) 0
  tallying_none =
      record {
        whole = length-replicate {A = Tally} groups empty;
        tallied = λ g h.
            ap (λ (t : Tally). t.load) (get_or-replicate groups g empty empty h) ∙ sym (sum_none (share g));
      }

  -- signal 1 + i is of group g
  pub tallying_next : (loads : List Tally) (i g : ℕ) (t : Tally) → Tallying loads i → i < 600 → g < groups
      → group (1 + i) ≡ g → Repetition (R (1 + i)) → Tallied (get_or loads g empty).load (R (1 + i)) t.load
      → Tallying (set loads g t) (i + 1)
  tallying_next loads i g t v few here own seven more =
      let old = v.tallied g here in
      let next = sum_more (share g) i in
      let one = ap (λ (n : ℕ). n * (64 / R (1 + i))) (same_equal (group (1 + i)) g own) in
      let its : (get_or (set loads g t) g empty).load ≡ group_load group R (i + 1) g =
      ap (λ (x : Tally). x.load) (get_or-set_same loads g t empty (omega (arith, v.whole)))
      ∙ tallied_added more seven (omega (arith, load_most group R (i + 1) g))
      ∙ omega arith in
      record {
        whole = length-set loads g t ∙ v.whole;
        tallied = λ k l.
            dite (ℕ_discrete k g) (λ e. rw e its) (λ n.
            let none = ap (λ (x : ℕ). x * (64 / R (1 + i))) (same_apart (group (1 + i)) k (λ e. n (sym e ∙ own))) in
            ap (λ (x : Tally). x.load) (get_or-set_other loads g k t empty n)
            ∙ v.tallied k l
            ∙ omega (arith, sum_more (share k) i));
      }
