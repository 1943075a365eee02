-- Plans and tables: of what the demands say of them, one thing that satisfies it and one that does not, on lists that are not
-- empty; and what every routine that keeps the demands gives of cases 1, 3 and 12.
-- Assumes nothing.
use mathlib.Core.Path.{◌≡◌, refl, ◌∙◌, sym, ap}
use mathlib.Core.List.{[], ◌++◌}
use mathlib.Core.Logic.{◌⊎◌, inl, inr, ⊎_elim, ◌↔◌, dite}
use Prim.Native.Nat.{ℕ, ◌+◌, ◌*◌, ◌-◌, ◌≤◌, ◌<◌, zero-le}
use native.Mathlib.Decide.{ℕ_discrete}
use native.Mathlib.Omega.{arith}
use lib.Dec.{lit≤}
use lib.ListN.{length, get_or, replicate, get_or-replicate, length-replicate, get_or-append}
use lib.Seq.{get_or-append-add}
use Rattle.laws.specs.Sums.{sum, same}
use Rattle.laws.specs.Lowest.{Between}
use Rattle.laws.proofs.RowLaws.{one_outcome}
use Rattle.laws.proofs.LowestLaws.{lowest_not_each}
use Rattle.laws.proofs.DivisorLaws.{euclid}
use Rattle.terms.specs.declared.Frame.{Frame}
use Rattle.terms.specs.Lists.{count, signal_at, group_of}
use Rattle.terms.specs.Requests.{Request, PlanRoom, plan_room}
use Rattle.age.proofs.AgeTests.{age_test}
use Rattle.rule.specs.Rule.{Kept, Repetitions}
use Rattle.cycles.specs.Frames.{Sends}
use Rattle.filling.specs.Shown.{cell_of}
use Rattle.filling.specs.Filled.{needed}
use Rattle.filling.specs.Drawn.{Drawn, slots_used}
use Rattle.planner.specs.Rows.{Needed, planning_rows}
use Rattle.planner.proofs.Unique.{needed_one, planning_single}
use Rattle.promises.specs.Calls.{Return, Routine}
use Rattle.promises.specs.Shows.{frame_of, age_of, over_words, from_book}
use Rattle.promises.specs.Tables.{Table, slots_shown}
use Rattle.promises.specs.Demand1.{Demand1Planning}
use Rattle.promises.specs.Demand2.{AgeShown, TableShown, Demand2Planning}
use Rattle.promises.specs.Demand3.{AcceptedPlan, Ready, Demand3}
use Rattle.terms.specs.Results.{result_size}
use Rattle.promises.proofs.Inputs.{settings, asked, fresh, result, case1, case3, single, blank}
use Rattle.promises.proofs.Inputs.{words, case1_results, case1_cells, sixty_four, invented, case1_book}
use Rattle.promises.proofs.Named.{fresh_valid, fresh_gets, half_gets, fresh_keeps, every, at_one, alone, slot1, slot1_in_range}
use Rattle.promises.proofs.Named.{case1_table, case1_count, ready, case1_ready, case3_ready, case1_holds}
use Rattle.promises.proofs.Clock.{releases, starts_named, starts_shown}
use Rattle.promises.proofs.Accepted.{needed_least}
use Rattle.promises.proofs.Examples.{each_yes, kept_no, lowest_signal_yes}
use Rattle.promises.proofs.Shams.{refuses_all}

-- ---- tables

pub drawn_yes : Drawn 93 1 (group_of case1) (λ i. slot1)
drawn_yes = case1_table.drawn

-- two frames in slot 1 of cycle 0
pub drawn_no : Drawn 93 2 (λ i. 1) (frame_of (words invented)) → ⊥
drawn_no h = omega (arith, h.apart 1 2 1 0 (lit≤ tt, lit≤ tt) (lit≤ tt, lit≤ tt) (lit≤ tt) (refl, every 0) (refl, every 0))

pub table_yes : Table settings case1 (λ i. slot1)
table_yes = case1_table

pub table_no : (frame : ℕ → Frame) → Table settings case3 frame → ⊥
table_no frame t = kept_no (_, (t.drawn.frames 1 (lit≤ tt, lit≤ tt)).repetition, t.keeps 1 (lit≤ tt, lit≤ tt))

pub ready_yes : Ready over_words (asked case1) (plan_room blank case1_results)
ready_yes = case1_ready (plan_room blank case1_results) (omega (arith, length-replicate {A = ℕ} 5952 0)) (lit≤ tt)

pub ready_no : Ready over_words (asked case1) (plan_room blank []) → ⊥
ready_no h = omega (arith, h.enough.1)

pub ready_book_yes : Ready from_book case1_book (replicate (4 * result_size) 0)
ready_book_yes =
    record {
      settings = rw case1_holds.settings_back fresh_valid.settings;
      whole = rw case1_holds.list_back case1_count;
      signals = rw (case1_holds.settings_back, case1_holds.list_back) each_yes;
      enough = (case1_holds.sound, omega (arith, ap count case1_holds.list_back, length-replicate {A = ℕ} 16 0));
    }

-- ---- the plan of case 1

abbrev frame : ℕ → Frame
frame = frame_of (words case1_results)

pub age_shown_yes : AgeShown settings fresh (result 1 0 1 16)
unfolding euclid
age_shown_yes =
    record {
      releases = releases 0 2500 (lit≤ tt);
      frame = slot1_in_range;
      starts = starts_named settings (frame 1) slot1_in_range;
      is_age = ((age_test settings fresh (frame 1) 16).1 tt).1;
    }

-- no age of a frame that is none of the segment
pub age_shown_no : (age : ℕ) → AgeShown settings fresh (result 94 0 1 age) → ⊥
age_shown_no age h = omega (arith, h.frame.slot)

-- slot 1 shows signal 1 in every cycle, and the others nothing
cell : (k c : ℕ) → Between 1 93 k → c < 64
    → ((k ≡ 1) × (cell_of case1_cells k c ≡ 1)) ⊎ ((k ≡ 1 → ⊥) × (cell_of case1_cells k c ≡ 0))
cell k c b l =
    let long = length-replicate {A = ℕ} 64 1 in
    dite (ℕ_discrete k 1)
    (λ e.
    let front = get_or-append (replicate 64 1) (replicate 5888 0) 0 (64 * (k - 1) + c) (omega arith) in
    inl (e, front ∙ get_or-replicate 64 (64 * (k - 1) + c) 1 0 (omega arith)))
    (λ n.
    let at : 64 * (k - 1) + c ≡ length {A = ℕ} (replicate 64 1) + (64 * (k - 2) + c) = omega arith in
    let behind = get_or-append-add {A = ℕ} (replicate 64 1) (replicate 5888 0) (64 * (k - 2) + c) 0 in
    let zero = get_or-replicate {A = ℕ} 5888 (64 * (k - 2) + c) 0 0 (omega arith) in
    inr (n, omega (arith, ap (λ (j : ℕ). get_or case1_cells j 0) at, behind, zero)))

cells_show : (k c i : ℕ) → Between 1 93 k → c < 64 → Between 1 1 i → (cell_of case1_cells k c ≡ i) ↔ Sends (frame i) k c
cells_show k c i b l =
    at_one (λ i. (cell_of case1_cells k c ≡ i) ↔ Sends (frame i) k c)
    (⊎_elim (λ t. ((λ e. (sym t.0, every c)), λ s. t.1))
    (λ f. ((λ e. absurd (omega (arith, f.1))), λ s. absurd (f.0 (sym s.0)))) (cell k c b l)) i

pub table_shown_yes : TableShown settings 1 frame case1_cells
table_shown_yes =
    record {
      shown = cells_show;
      empty = λ k c b l. (
        (λ e i own s. omega (arith, own, (cells_show k c i b l own).1 s)),
        λ none. ⊎_elim (λ t. absurd (none 1 (lit≤ tt, lit≤ tt) (sym t.0, every c))) (λ f. f.1) (cell k c b l),
      );
      clock = starts_shown settings 1 frame case1_cells (at_one _ slot1_in_range) cells_show;
    }

pub table_shown_no : TableShown settings 1 frame blank → ⊥
table_shown_no h =
    let one_there = (h.shown 1 0 1 (lit≤ tt, lit≤ tt) (lit≤ tt) (lit≤ tt, lit≤ tt)).1 (refl, every 0) in
    omega (arith, one_there, get_or-replicate {A = ℕ} 5952 0 0 0 (lit≤ tt))

-- of two slots shown, one is in use
pub one_shown : slots_shown 2 (replicate 64 1 ++ replicate 64 0) ≡ 1
unfolding sum
one_shown = refl

-- the rule gives the signal of case 1 repetition 1, and 5000/0/5000 not 1 but 2
pub repetitions_yes : Repetitions settings case1 (λ i. 1)
repetitions_yes = at_one _ fresh_gets

pub repetitions_no : Repetitions settings single (λ i. 1) → ⊥
repetitions_no r =
    let two = half_gets.has (λ e. omega (arith, e)) in
    omega (arith, (r 1 (lit≤ tt, lit≤ tt)).largest 2 two.0 two.1)

needs_one : needed case1 (λ i. 1) ≡ 1
unfolding sum same
needs_one = refl

pub needed_yes : Needed settings case1 1
needed_yes = ((λ i. 1), repetitions_yes, sym needs_one)

pub needed_no : Needed settings case1 2 → ⊥
needed_no h = omega (arith, needed_one settings case1 2 1 h needed_yes)

-- no table of case 1 uses fewer slots than one, and there is one that uses one
one_least : (other : ℕ → Frame) → Table settings case1 other → 1 ≤ slots_used 93 1 other
one_least other t = omega (arith, needs_one, needed_least settings case1 (λ i. 1) repetitions_yes other t)

uses_one : slots_used 93 1 (λ i. slot1) ≡ 1
unfolding sum same
uses_one = refl

pub accepted_yes : AcceptedPlan settings case1 1 frame (age_of (words case1_results))
unfolding sum same
accepted_yes =
    record {
      rule = at_one _ fresh_gets;
      table = record { drawn = alone 93 frame slot1_in_range; keeps = at_one _ fresh_keeps };
      bounds = at_one _ (lit≤ tt);
      used = refl;
      fewest = one_least;
    }

-- repetition 64, over the bound; and two slots claimed
pub accepted_no_64 : (place : ℕ)
    → AcceptedPlan settings case1 place (frame_of (words sixty_four)) (age_of (words sixty_four)) → ⊥
accepted_no_64 place h = omega (arith, h.bounds 1 (lit≤ tt, lit≤ tt))

pub accepted_no_two : AcceptedPlan settings case1 2 frame (age_of (words case1_results)) → ⊥
accepted_no_two h = omega (arith, h.used, accepted_yes.used)

-- ---- cases 1, 3 and 12, of every routine that keeps the demands

module _ (Gives : Routine Request PlanRoom) (l : PlanRoom) (y : Return PlanRoom)
    (cells : 5952 ≤ length l.cells) where
  -- case 1 is accepted, in one slot
  pub case1_accepted : Demand3 over_words Gives → result_size ≤ length l.results → Gives (asked case1) l y
      → (y.number ≡ 0) × (y.place ≡ 1)
  case1_accepted keeps results g =
      let number =
      dite (ℕ_discrete y.number 0) (λ e. e) (λ n. absurd (refuses_all Gives keeps l y cells results g n)) in
      let a = keeps.accepted (asked case1) l y g number in
      (number, omega (arith, a.fewest (λ i. slot1) case1_table, uses_one, one_least _ a.table, a.used))

  -- case 3 is refused with 8, at signal 1
  pub case3_refused : Demand1Planning Gives → result_size ≤ length l.results → Gives (asked case3) l y
      → (y.number ≡ 8) × (y.place ≡ 1)
  case3_refused keeps results g =
      let h = case3_ready l cells results in
      let none = lowest_not_each 1 (λ i. Kept settings (signal_at case3 i)) 1 lowest_signal_yes in
      one_outcome (planning_rows (asked case3) l) (Needed settings case3) (needed_one settings case3) (planning_single (asked case3) l)
      y.number 8 y.place 1 (keeps.numbered (asked case3) l y g)
      (inr (h.settings, inr (h.whole, inr (cells, inr (results, inr (h.signals, inl (none, refl, lowest_signal_yes)))))))

  -- case 12: the empty list is done, with a table all 0
  pub case12_done : Demand3 over_words Gives → Demand2Planning Gives → Gives (asked []) l y
      → (y.number ≡ 0) × ((k c : ℕ) → Between 1 93 k → c < 64 → cell_of y.lent.cells k c ≡ 0)
  case12_done three two g =
      let room = ready l cells [] (record { whole = refl; few = lit≤ tt }) (λ i b. absurd (omega arith)) zero-le in
      let drawn : Drawn 93 0 (group_of []) (λ i. slot1) =
      record { frames = λ i b. absurd (omega arith); apart = omega arith; one_group = omega arith } in
      let number : y.number ≡ 0 =
      dite (ℕ_discrete y.number 0) (λ e. e)
      (λ n.
      absurd ((three.refused_exactly (asked []) l y g room).0 n (λ i. slot1)
      (record { drawn = drawn; keeps = λ i b. absurd (omega arith) }))) in
      (number, λ k c b h. ((two.table (asked []) l y g number).empty k c b h).1 (λ i own. absurd (omega arith)))
