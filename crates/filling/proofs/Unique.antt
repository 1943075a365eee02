-- Two outcomes of filling that its contract allows for the same input are equal: the answer, each cell and each word of
-- the results. What is shown depends on the repetitions of the signals alone.
-- Assumes nothing.
use mathlib.Core.Path.{◌≡◌, refl, sym, ◌∙◌}
use mathlib.Core.List.{List, Memᴰ}
use mathlib.Core.Logic.{dite}
use Prim.Native.Nat.{ℕ, ◌+◌, ◌*◌, ◌/◌, ◌%◌, ◌≤◌, ◌<◌}
use native.Mathlib.Decide.{ℕ_discrete, dec_lt}
use native.Mathlib.Omega.{arith}
use Rattle.std.specs.Prelude.{Result}
use lib.ListN.{length, get_or}
use lib.Seq.{ext_get_or}
use Rattle.laws.specs.Lowest.{Between, EachTo}
use Rattle.terms.specs.declared.Settings.{Settings}
use Rattle.terms.specs.declared.SignalResult.{SignalResult}
use Rattle.terms.specs.Requests.{Request, PlanRoom, plan_room}
use Rattle.terms.specs.Lists.{count, signal_at, group_of}
use Rattle.terms.specs.Results.{result_size, result_start}
use Rattle.terms.proofs.ResultsLaws.{same_words}
use Rattle.age.proofs.AgeGivenLaws.{age_given_unique}
use Rattle.cycles.specs.Frames.{Sends}
use Rattle.filling.specs.declared.UnitFrame.{UnitFrame}
use Rattle.filling.specs.declared.Unfilled.{Unfilled}
use Rattle.filling.specs.Ordered.{ordered}
use Rattle.filling.specs.Runs.{Placed, start}
use Rattle.filling.specs.Filled.{fill_from, filled}
use Rattle.filling.specs.Shown.{cell_of, CellsShow, ResultOf, EachResult, ResultsShow}
use Rattle.filling.specs.Outcomes.{repetition_in, FillOutcome}
use Rattle.filling.specs.Outcomes.FillOutcome.{unfit, short, done}
use Rattle.filling.proofs.LoadLaws.{needed_same}
use Rattle.filling.proofs.ShowLaws.{cell_at}
use Rattle.filling.proofs.Gathering.{frames_same}
use Rattle.filling.proofs.FilledLaws.{filled_some}

-- ---- of the repetitions of the signals alone

pub filled_same : (list : List ℕ) (R Q : ℕ → ℕ) → EachTo (count list) (λ i. R i ≡ Q i) → filled list R ≡ filled list Q
filled_same list R Q h =
    let frames = frames_same R Q (count list) 1 (λ j l k. h j (l, omega arith)) in
    λ t. fill_from (group_of list) (λ g. start (needed_same (group_of list) R Q (count list) h g t))
    (ordered (frames t))

-- ---- one list at exit

-- two lists that are equal below n, and from n on as another was
pub same_list : (n : ℕ) (entry : List ℕ) {a b : List ℕ} → length a ≡ length entry → length b ≡ length entry
    → ((j : ℕ) → n ≤ j → get_or a j 0 ≡ get_or entry j 0) → ((j : ℕ) → n ≤ j → get_or b j 0 ≡ get_or entry j 0)
    → ((j : ℕ) → j < n → get_or a j 0 ≡ get_or b j 0) → a ≡ b
same_list n entry {a} {b} d e later later' front =
    ext_get_or 0 a b (d ∙ sym e) (λ j l.
    dite (dec_lt j n) (front j) (λ h. let past : n ≤ j = omega arith in later j past ∙ sym (later' j past)))

module _ {slots : ℕ} {places : List Placed} {entry a b : List ℕ} (x : CellsShow slots places entry a)
    (y : CellsShow slots places entry b)
  where
    -- if a cell were not the same in both, no frame would have it, and it would be 0 in both
    same_cell : (k c : ℕ) → Between 1 slots k → c < 64 → cell_of a k c ≡ cell_of b k c
    same_cell k c w l =
        dite (ℕ_discrete (cell_of a k c) (cell_of b k c)) (λ e. e) (λ n.
        let none : (p : Placed) → Memᴰ p places → Sends p.frame k c → ⊥ =
        λ p m s. n (x.holds p k c m l s ∙ sym (y.holds p k c m l s)) in
        x.empty k c w l none ∙ sym (y.empty k c w l none))

    pub cells_one : a ≡ b
    cells_one =
        same_list (64 * slots) entry x.same_length y.same_length x.later y.later (λ j l.
        sym (cell_at a j) ∙ same_cell (j / 64 + 1) (j % 64) (omega arith) (omega arith) ∙ cell_at b j)

module _ (s : Settings) (list : List ℕ) where
  result_one : (p : Placed) {q r : SignalResult} → ResultOf s list p q → ResultOf s list p r → q ≡ r
  result_one p {q} {r} x y =
      let frame = x.frame ∙ sym y.frame in
      let age = age_given_unique s (signal_at list p.signal) p.frame q.age r.age x.age y.age in
      λ t. record { frame = frame t; age = age t }

  -- two rows of words that show one filling agree
  pub words_one : (R : ℕ → ℕ) (v w : ℕ → ℕ) → EachResult s list (filled list R) v → EachResult s list (filled list R) w
      → (j : ℕ) → j < result_size * count list → v j ≡ w j
  words_one R v w x y j l =
      let r = filled_some list R (1 + j / result_size) (omega arith) in
      let at = result_start r.0.signal in
      let place : at + j % result_size ≡ j = omega (arith, r.2) in
      let one = result_one r.0 (x r.0 r.1) (y r.0 r.1) in
      rw place at (same_words (λ d. v (at + d)) (λ d. w (at + d)) one (j % result_size) (omega arith))

  -- the cells and the results of two fillings with the same repetitions
  pub plan_same : (R Q : ℕ → ℕ) → EachTo (count list) (λ i. R i ≡ Q i) → {entry a b : PlanRoom}
      → CellsShow s.slots (filled list R) entry.cells a.cells
      → ResultsShow s list (filled list R) entry.results a.results
      → CellsShow s.slots (filled list Q) entry.cells b.cells
      → ResultsShow s list (filled list Q) entry.results b.results
      → a ≡ b
  plan_same R Q h {entry} {a} {b} cells results cells' results' =
      let e = sym (filled_same list R Q h) in
      let c = cells_one cells (rw e at cells') in
      let shown = rw e at results' in
      let words = words_one R (λ d. get_or a.results d 0) (λ d. get_or b.results d 0) results.shown in
      let r = same_list _ entry.results results.same_length shown.same_length results.later shown.later
      (words shown.shown) in
      λ t. plan_room (c t) (r t)

-- ---- one outcome

pub fill_unique : (x : Request) (words : List ℕ) (lent : PlanRoom) {f g : Result ℕ Unfilled} {a b : PlanRoom}
    → FillOutcome x words lent f a → FillOutcome x words lent g b → (f ≡ g) × (a ≡ b)
fill_unique x words lent (unfit n) (unfit m) = (refl, refl)
fill_unique x words lent (unfit n) (short h l) = absurd (n h)
fill_unique x words lent (unfit n) (done h l c r) = absurd (n h)
fill_unique x words lent (short h l) (unfit n) = absurd (n h)
fill_unique x words lent (short h l) (short i k) = (refl, refl)
fill_unique x words lent (short h l) (done i k c r) = absurd (omega arith)
fill_unique x words lent (done h l c r) (unfit n) = absurd (n h)
fill_unique x words lent (done h l c r) (short i k) = absurd (omega arith)
fill_unique x words lent (done h l c r) (done i k d q) =
    (refl, plan_same x.settings x.list (repetition_in words) (repetition_in words) (λ i b. refl) c r d q)

pub order_unique : (frames a b : List UnitFrame) → a ≡ ordered frames → b ≡ ordered frames → a ≡ b
order_unique frames a b p q = p ∙ sym q
