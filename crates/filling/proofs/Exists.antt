-- For every input there is an outcome of filling that its contract allows: what it rests on is decided, and the cells
-- and the results are made word by word.
-- Assumes nothing.
use mathlib.Core.Path.{◌≡◌, refl, sym, ap, subst, subst₂, ◌∙◌}
use mathlib.Core.List.{List, [], ◌∷◌}
use mathlib.Core.List.Memᴰ
use mathlib.Core.List.{Memᴰ}
use mathlib.Core.Logic.{⊎_elim, dite}
use Prim.Native.Nat.{ℕ, zero, suc, ◌+◌, ◌*◌, ◌-◌, ◌/◌, ◌%◌, ◌≤◌, ◌<◌}
use native.Mathlib.Decide.{map_dec}
use native.Mathlib.Numerals.{add-one}
use native.Mathlib.Omega.{arith}
use lib.ListN.{length, get_or, set}
use Rattle.laws.specs.Lowest.{Between, EachTo}
use Rattle.terms.specs.declared.Settings.{Settings}
use Rattle.terms.specs.declared.SignalResult.{SignalResult}
use Rattle.terms.specs.Requests.{PlanRoom, plan_room}
use Rattle.terms.specs.Ranges.{Repetition, FrameInRange}
use Rattle.terms.specs.Lists.{count, signal_at, group_of, groups}
use Rattle.terms.specs.Results.{words_of, result_size, result_start}
use Rattle.terms.proofs.ResultsLaws.{same_result}
use Rattle.age.proofs.Exists.{age_given_exists}
use Rattle.cycles.specs.Frames.{Sends}
use Rattle.cycles.proofs.FrameLaws.{sends_or_not}
use Rattle.filling.specs.Runs.{Placed}
use Rattle.filling.specs.Filled.{needed, filled}
use Rattle.filling.specs.Shown.{cell_of, CellsShow, ResultOf, ResultsShow}
use Rattle.filling.proofs.ShowLaws.{Front, front_none, front_next}
use Rattle.filling.proofs.FilledLaws.{In, filled_own, filled_some, filled_only, filled_range, filled_apart}

-- ---- a list made word by word

front_exists : (n : ℕ) (P : ℕ → ℕ → Type 0) (entry : List ℕ) → n ≤ length entry
    → ((j : ℕ) → j < n → (x : ℕ) × P j x) → (exit : List ℕ) × Front P entry exit n
front_exists zero P entry h some = (entry, front_none P entry)
front_exists (suc n) P entry h some =
    let r = front_exists n P entry (omega arith) (λ j l. some j (omega arith)) in
    let x = some n (omega arith) in
    (set r.0 n x.0, rw (sym (add-one n)) (front_next P entry r.0 n x.0 r.1 h x.1))

-- an entry with the property, or none
some_or_none : {A : Type 0} (P : A → Type 0) (l : List A) → ((x : A) → Memᴰ x l → Dec (P x))
    → Dec ((x : A) × Memᴰ x l × P x)
some_or_none P [] d = no (λ r. Memᴰ.not-nil r.1)
some_or_none P (y ∷ l) d =
    dite (d y (Memᴰ.head refl)) (λ p. yes (y, Memᴰ.head refl, p)) (λ n.
    map_dec (λ r. (r.0, Memᴰ.tail r.1, r.2))
    (λ r. ⊎_elim (λ e. absurd (n (subst P e r.2))) (λ m. (r.0, m, r.2)) (Memᴰ.cases_cons r.1))
    (some_or_none P l (λ x m. d x (Memᴰ.tail m))))

-- ---- the cells

module _ (list : List ℕ) (R : ℕ → ℕ) (seven : EachTo (count list) (λ i. Repetition (R i)))
    (grp : EachTo (count list) (λ i. group_of list i < groups))
  where
    range : (p : Placed) → In list R p → FrameInRange (needed list R) p.frame
    range = filled_range list R seven grp

    -- x is what the cell of slot k and cycle c is to hold
    record Cell (k c x : ℕ) : Type 0 where
      holds : (p : Placed) → In list R p → Sends p.frame k c → x ≡ p.signal
      empty : ((p : Placed) → In list R p → Sends p.frame k c → ⊥) → x ≡ 0

    cell : (k c : ℕ) → (x : ℕ) × Cell k c x
    cell k c =
        dite (some_or_none (λ p. Sends p.frame k c) (filled list R) (λ p a. sends_or_not p.frame (range p a) k c))
        (λ (p, a, s). (
          p.signal,
          record { holds = λ q b t. rw (filled_apart list R seven p q a b k c s t); empty = λ n. absurd (n p a s) },
        ))
        (λ none. (0, record { holds = λ p a s. absurd (none (p, a, s)); empty = λ n. refl }))

    abbrev CellAt : (j x : ℕ) → Type 0
    CellAt j x = Cell (1 + j / 64) (j % 64) x

    cells_exist : (slots : ℕ) → needed list R ≤ slots → (entry : List ℕ) → 64 * slots ≤ length entry
        → (exit : List ℕ) × CellsShow slots (filled list R) entry exit
    cells_exist slots fits entry room =
        let e = front_exists (64 * slots) CellAt entry room (λ j l. cell (1 + j / 64) (j % 64)) in
        let at : (k c : ℕ) → Between 1 slots k → c < 64 → Cell k c (cell_of e.0 k c) = λ k c b l.
        let j = 64 * (k - 1) + c in
        let slot : 1 + j / 64 ≡ k = omega arith in
        let cycle : j % 64 ≡ c = omega arith in
        subst₂ (λ (k c : ℕ). Cell k c (get_or e.0 j 0)) slot cycle (e.1.first j (omega arith)) in (
          e.0,
          record {
            same_length = e.1.same_length;
            holds = λ p k c a l s. (at k c (omega (arith, (range p a).slot, s.0, fits)) l).holds p a s;
            empty = λ k c b l none. (at k c b l).empty none;
            later = e.1.later;
          },
        )

-- ---- the results

module _ (s : Settings) (list : List ℕ) where
  result : (p : Placed) → (r : SignalResult) × ResultOf s list p r
  result p =
      let a = age_given_exists s (signal_at list p.signal) p.frame in
      (record { frame = p.frame; age = a.0 }, record { frame = refl; age = a.1 })

  -- word d of the result of a place
  abbrev word_of : Placed → ℕ → ℕ
  word_of p d = get_or (words_of (result p).0) d 0

  module _ (R : ℕ → ℕ) where
    -- x is word j of the results
    abbrev WordAt : (j x : ℕ) → Type 0
    WordAt j x = (p : Placed) → In list R p → p.signal ≡ 1 + j / result_size → x ≡ word_of p (j % result_size)

    word : (j : ℕ) → j < result_size * count list → (x : ℕ) × WordAt j x
    word j l =
        let r = filled_some list R (1 + j / result_size) (omega arith) in
        (word_of r.0 (j % result_size), λ p a e. rw (filled_only list R r.0 p r.1 a (r.2 ∙ sym e)))

    results_exist : (entry : List ℕ) → result_size * count list ≤ length entry
        → (exit : List ℕ) × ResultsShow s list (filled list R) entry exit
    results_exist entry room =
        let e = front_exists (result_size * count list) WordAt entry room word in (
          e.0,
          record {
            same_length = e.1.same_length;
            shown = λ p a.
                let at = result_start p.signal in
                let own = (filled_own list R p a).0 in
                subst (ResultOf s list p)
                (sym
                (same_result (λ d. get_or e.0 (at + d) 0) (word_of p) (λ d l.
                let signal : p.signal ≡ 1 + (at + d) / result_size = omega (arith, own) in
                let rest : (at + d) % result_size ≡ d = omega arith in
                e.1.first (at + d) (omega (arith, own)) p a signal ∙ ap (word_of p) rest)))
                (result p).1;
            later = e.1.later;
          },
        )

-- ---- both

pub show_exists : (s : Settings) (list : List ℕ) (R : ℕ → ℕ)
    → EachTo (count list) (λ i. Repetition (R i)) → EachTo (count list) (λ i. group_of list i < groups)
    → needed list R ≤ s.slots
    → (lent : PlanRoom) → 64 * s.slots ≤ length lent.cells → result_size * count list ≤ length lent.results
    → (exit : PlanRoom)
    × CellsShow s.slots (filled list R) lent.cells exit.cells
    × ResultsShow s list (filled list R) lent.results exit.results
show_exists s list R seven grp fits lent room room' =
    let c = cells_exist list R seven grp s.slots fits lent.cells room in
    let r = results_exist s list R lent.results room' in
    (plan_room c.0 r.0, c.1, r.1)
