-- The sentences of "Filling the table" leave one plan only: two accepted plans of a list, both filled as they say,
-- show the same frame of each signal, by induction along the order of filling. So the words of their results and the
-- cells of their tables are the same.
-- Assumes nothing.
use mathlib.Core.Path.{◌≡◌, refl, ◌∙◌, sym, ap, subst}
use mathlib.Core.List.{List}
use mathlib.Core.Logic.{◌⊎◌, inl, inr, ⊎_elim, dite}
use mathlib.Core.WellFounded.{fix}
use Prim.Native.Nat.{ℕ, ◌+◌, ◌*◌, ◌-◌, ◌/◌, ◌%◌, ◌<◌}
use native.Mathlib.Decide.{ℕ_discrete, dec_lt}
use native.Mathlib.Omega.{arith}
use lib.ListN.{get_or}
use lib.WfN.{lt-wf_rel}
use Rattle.laws.specs.Lowest.{Between, EachTo}
use Rattle.terms.specs.declared.Settings.{Settings}
use Rattle.terms.specs.declared.Signal.{Signal}
use Rattle.terms.specs.declared.Frame.{Frame}
use Rattle.terms.specs.Lists.{count, signal_at, group_of}
use Rattle.terms.specs.Results.{result_size, result_start, result_at}
use Rattle.terms.proofs.ResultsLaws.{same_words}
use Rattle.age.specs.Age.{first_start, span_of, Age}
use Rattle.age.proofs.AgeLaws.{age_unique}
use Rattle.cycles.specs.Frames.{Sends}
use Rattle.filling.specs.Shown.{cell_of}
use Rattle.filling.specs.Drawn.{Drawn, Before, FillingShown}
use Rattle.planner.proofs.PlannedLaws.{repetitions_same}
use Rattle.promises.specs.Shows.{frame_of, age_of}
use Rattle.promises.specs.Demand2.{AgeShown, TableShown}
use Rattle.promises.specs.Demand3.{AcceptedPlan}
use Rattle.promises.proofs.Clock.{base_sent}

-- ---- induction along an order

-- two numbers stand in one of three ways
compare : {A : Type 0} (m n : ℕ) → (m < n → A) → (m ≡ n → A) → (n < m → A) → A
compare m n below equal above = dite (dec_lt m n) below (λ g. dite (dec_lt n m) above (λ l. equal (omega arith)))

-- what holds of a number whenever it holds of all that go before it, holds of every number
abbrev Inducts : (Goes : (i j : ℕ) → Type 0) → Type 1
Inducts Goes = (P : ℕ → Type 0) → ((i : ℕ) → ((j : ℕ) → Goes j i → P j) → P i) → (i : ℕ) → P i

by_number : Inducts ◌<◌
by_number P step i = fix {C = P} lt-wf_rel.wf step i

-- first by f, and where that is equal by another order
abbrev ByFirst : (f : ℕ → ℕ) (Goes : (i j : ℕ) → Type 0) → (i j : ℕ) → Type 0
ByFirst f Goes i j = (f i < f j) ⊎ ((f i ≡ f j) × Goes i j)

by_first : (f : ℕ → ℕ) (Goes : (i j : ℕ) → Type 0) → Inducts Goes → Inducts (ByFirst f Goes)
by_first f Goes inducts P step i =
    by_number (λ n. (i : ℕ) → f i ≡ n → P i)
    (λ n lower.
    inducts (λ i. f i ≡ n → P i)
    (λ i sooner e. step i (λ j. ⊎_elim (λ l. lower (f j) (omega arith) j refl) (λ t. sooner j t.1 (t.0 ∙ e)))))
    (f i) i refl

-- ---- one frame of each signal

module _ (slots m : ℕ) (group : ℕ → ℕ) where
  abbrev Own : ℕ → Type 0
  Own = Between 1 m

  -- what is used of a plan
  record FilledPlan (frame : ℕ → Frame) : Type 0 where
    drawn : Drawn slots m group frame
    filling : FillingShown m group frame

  module _ (frame : ℕ → Frame) where
    -- one goes before another, over all units
    abbrev Earlier : (i j : ℕ) → Type 0
    Earlier i j = (group i < group j) ⊎ Before group frame i j

    -- of two frames of a unit one goes before the other
    first_of : (i j : ℕ) → group i ≡ group j → (i ≡ j → ⊥) → Before group frame i j ⊎ Before group frame j i
    first_of i j e d =
        compare (frame i).repetition (frame j).repetition (λ l. inl (e, inl l))
        (λ r. compare i j (λ l. inl (e, inr (r, l))) (λ z. absurd (d z)) (λ l. inr (sym e, inr (sym r, l))))
        (λ l. inr (sym e, inl l))

    not_itself : (i j : ℕ) → i ≡ j → Before group frame i j → ⊥
    not_itself i j e (u, h) = ⊎_elim (λ l. omega (arith, ap (λ (n : ℕ). (frame n).repetition) e)) (λ l. omega arith) h

  -- two plans, in either role, that are the same as far as the frames before signal i
  module _ (frame frame' : ℕ → Frame) (a : FilledPlan frame) (a' : FilledPlan frame') (i : ℕ) (own : Own i)
      (before : (j : ℕ) → Own j → Earlier frame' j i → frame j ≡ frame' j) where
    cell : ((frame i).base < 64) × Sends (frame i) (frame i).slot (frame i).base
    cell = base_sent (a.drawn.frames i own)

    -- a frame that goes before i in the second is not in i's cell in the first
    not_both : (j : ℕ) {k : ℕ} → Own j → Before group frame' j i → (frame i).slot ≡ k
        → Sends (frame' j) k (frame i).base → ⊥
    not_both j here b e sends =
        let both =
        a.drawn.apart j i _ _ here own cell.0 (rw (← before j here (inr b)) at sends) (e, cell.1.1) in
        not_itself frame' j i both b

    -- in the second, a frame of i's unit in a lower slot goes before i: `onward`
    lower_before : (j : ℕ) → Own j → (frame' j).slot < (frame' i).slot → group j ≡ group i → Before group frame' j i
    lower_before j at l e =
        ⊎_elim (λ b. b) (λ b. absurd (omega (arith, a'.filling.onward i j own at b)))
        (first_of frame' j i e (λ z. omega (arith, ap (λ (n : ℕ). (frame' n).slot) z)))

    -- a lower slot is in use in the second: `lowest`; by a frame of i's unit: `units`; so all its cycles are taken
    -- before i: `full`
    no_lower_slot : (frame i).slot < (frame' i).slot → ⊥
    no_lower_slot l =
        let (j, at, e) = a'.filling.lowest i (frame i).slot own ((a.drawn.frames i own).slot.0, omega arith) in
        compare (group j) (group i)
        (λ u. omega (arith, a.filling.units j i at own u, ap (λ (f : Frame). f.slot) (before j at (inl u))))
        (λ u.
        let (n, here, sends) =
        a'.filling.full j i (frame i).base at own (lower_before j at (omega arith) u) (omega arith) cell.0 in
        let of_unit : group n ≡ group i = omega (arith, a'.drawn.one_group n j here at sends.0) in
        not_both n here (lower_before n here (omega (arith, sends.0)) of_unit) (sym e) sends)
        (λ u. omega (arith, a'.filling.units i j own at u))

    -- a cycle below is taken before i in the second: `first_free`
    no_lower_base : (frame i).slot ≡ (frame' i).slot → (frame i).base < (frame' i).base → ⊥
    no_lower_base e l =
        let (j, at, b, sends) = a'.filling.first_free i (frame i).base own l in
        not_both j at b e sends

  module _ (frame frame' : ℕ → Frame) (a : FilledPlan frame) (a' : FilledPlan frame')
      (same_repetition : EachTo m (λ i. (frame i).repetition ≡ (frame' i).repetition)) where
    same_order : (i j : ℕ) → Own i → Own j → Earlier frame' i j → Earlier frame i j
    same_order i j b c (inl l) = inl l
    same_order i j b c (inr (u, inl l)) = inr (u, inl (omega (arith, same_repetition i b, same_repetition j c)))
    same_order i j b c (inr (u, inr (e, l))) = inr (u, inr (same_repetition i b ∙ e ∙ sym (same_repetition j c), l))

    next_same : (i : ℕ) → Own i → ((j : ℕ) → Own j → Earlier frame j i → frame j ≡ frame' j) → frame i ≡ frame' i
    next_same i own before =
        let there : (j : ℕ) → Own j → Earlier frame' j i → frame j ≡ frame' j =
        λ j at h. before j at (same_order j i at own h) in
        let back : (j : ℕ) → Own j → Earlier frame j i → frame' j ≡ frame j = λ j at h. sym (before j at h) in
        let slot : (frame i).slot ≡ (frame' i).slot =
        omega (arith, no_lower_slot frame frame' a a' i own there, no_lower_slot frame' frame a' a i own back) in
        let base : (frame i).base ≡ (frame' i).base =
        let not_below = no_lower_base frame frame' a a' i own there slot in
        omega (arith, not_below, no_lower_base frame' frame a' a i own back (sym slot)) in
        λ k. record { slot = slot k; base = base k; repetition = same_repetition i own k }

    -- the order of filling: by unit, by repetition, by place in the list
    all_same : EachTo m (λ i. frame i ≡ frame' i)
    all_same =
        let R : ℕ → ℕ = λ i. (frame i).repetition in
        by_first group (ByFirst R ◌<◌) (by_first R ◌<◌ by_number) (λ i. Own i → frame i ≡ frame' i)
        (λ i sooner own. next_same i own (λ j at h. sooner j h at))

pub one_filling : (s : Settings) (list : List ℕ) (p q : ℕ) (frame frame' : ℕ → Frame) (age age' : ℕ → ℕ)
    → AcceptedPlan s list p frame age → AcceptedPlan s list q frame' age'
    → FillingShown (count list) (group_of list) frame → FillingShown (count list) (group_of list) frame'
    → EachTo (count list) (λ i. frame i ≡ frame' i)
one_filling s list p q frame frame' age age' a a' f f' =
    all_same s.slots (count list) (group_of list) frame frame' (record { drawn = a.table.drawn; filling = f })
    (record { drawn = a'.table.drawn; filling = f' })
    (repetitions_same s list (λ i. (frame i).repetition) a.rule (λ i. (frame' i).repetition) a'.rule)

-- ---- one row of words

pub one_age : (s : Settings) (x : Signal) (f : Frame) {a b : ℕ} → Age s x f a → Age s x f b → a ≡ b
one_age s x f = age_unique (first_start s f) (span_of s f) s.packing s.slot x.offset x.period _ _

-- what the words of an accepted plan show
pub record ShownPlan (s : Settings) (list : List ℕ) (place : ℕ) (word : ℕ → ℕ) : Type 0 where
  pub accepted : AcceptedPlan s list place (frame_of word) (age_of word)
  pub filling : FillingShown (count list) (group_of list) (frame_of word)
  pub ages : EachTo (count list) (λ i. AgeShown s (signal_at list i) (result_at word i))

module _ {s : Settings} {list : List ℕ} {p p' : ℕ} {word word' : ℕ → ℕ} (a : ShownPlan s list p word)
    (a' : ShownPlan s list p' word') where
  -- each uses the fewest slots of any
  pub one_place : p ≡ p'
  one_place =
      let here = a.accepted in
      let there = a'.accepted in
      omega (arith, here.used, there.used, here.fewest _ there.table, there.fewest _ here.table)

  pub one_frame : EachTo (count list) (λ i. frame_of word i ≡ frame_of word' i)
  one_frame = one_filling s list p p' _ _ _ _ a.accepted a'.accepted a.filling a'.filling

  one_result : EachTo (count list) (λ i. result_at word i ≡ result_at word' i)
  one_result i b =
      let moved =
      subst (λ (g : Frame). Age s (signal_at list i) g (age_of word i)) (one_frame i b) (a.ages i b).is_age in
      let age = one_age s (signal_at list i) (frame_of word' i) moved (a'.ages i b).is_age in
      λ k. record { frame = one_frame i b k; age = age k }

  pub one_words : (j : ℕ) → j < result_size * count list → word j ≡ word' j
  one_words j l =
      let i = 1 + j / result_size in
      let at : result_start i + j % result_size ≡ j = omega arith in
      subst (λ (n : ℕ). word n ≡ word' n) at
      (same_words (λ d. word (result_start i + d)) (λ d. word' (result_start i + d)) (one_result i (omega arith))
      (j % result_size) (omega arith))

-- ---- one table of cells

module _ (s : Settings) (m : ℕ) {frame frame' : ℕ → Frame} {cells cells' : List ℕ}
    (same : EachTo m (λ i. frame i ≡ frame' i)) (t : TableShown s m frame cells)
    (t' : TableShown s m frame' cells') where
  -- if a cell were not the same in both, no frame would have it, and it would be 0 in both
  one_cell : (k c : ℕ) → Between 1 s.slots k → c < 64 → cell_of cells k c ≡ cell_of cells' k c
  one_cell k c b l =
      dite (ℕ_discrete (cell_of cells k c) (cell_of cells' k c)) (λ e. e)
      (λ n.
      let none : (i : ℕ) → Between 1 m i → Sends (frame i) k c → ⊥ =
      λ i own h. n ((t.shown k c i b l own).1 h ∙ sym ((t'.shown k c i b l own).1 (rw (same i own) at h))) in
      (t.empty k c b l).1 none ∙ sym ((t'.empty k c b l).1 (λ i own h. none i own (rw (← same i own) at h))))

  pub one_table : (j : ℕ) → j < 64 * s.slots → get_or cells j 0 ≡ get_or cells' j 0
  one_table j l =
      let at : 64 * (1 + j / 64 - 1) + j % 64 ≡ j = omega arith in
      subst (λ (n : ℕ). get_or cells n 0 ≡ get_or cells' n 0) at
      (one_cell (1 + j / 64) (j % 64) (omega arith) (omega arith))
