-- Laws of showing: cells cleared, the cells of a frame painted one repetition after the other, and how cells and
-- results that show some frames come to show one more.
-- Assumes nothing.
use mathlib.Core.Path.{◌≡◌, refl, sym, ap, subst, ◌∙◌}
use mathlib.Core.List.Memᴰ
use mathlib.Core.List.{List, [], ◌∷◌, ◌++◌, Memᴰ}
use mathlib.Core.Logic.{⊎_elim, dite}
use Prim.Native.Nat.{ℕ, ◌+◌, ◌*◌, ◌-◌, ◌/◌, ◌%◌, ◌≤◌, ◌<◌}
use native.Mathlib.Nat.{mul-le-mul_right, suc-mul}
use native.Mathlib.Decide.{ℕ_discrete, dec_lt}
use native.Mathlib.Omega.{arith}
use borrow.Author.Count.{below_more}
use lib.ListN.{length, get_or, set, drop, replicate, length-set, length-append, length-drop, length-replicate}
use lib.Seq.{get_or-set_same, get_or-set_other}
use Rattle.std.proofs.lemmas.Grind.{common_steps}
use Rattle.laws.specs.Lowest.{Between}
use Rattle.laws.specs.Stored.{stored}
use Rattle.laws.proofs.StoredLaws.{stored_length, stored_others}
use Rattle.terms.specs.declared.Settings.{Settings}
use Rattle.terms.specs.declared.Frame.{Frame}
use Rattle.terms.specs.Ranges.{FrameInRange}
use Rattle.terms.specs.Lists.{count}
use Rattle.terms.specs.Results.{words_of, result_size, result_start, result_at}
use Rattle.terms.proofs.RepetitionLaws.{repetition_positive}
use Rattle.terms.proofs.ResultsLaws.{result_stored, result_others}
use Rattle.cycles.specs.Frames.{Names, Sends}
use Rattle.cycles.proofs.FrameLaws.{sends_or_not}
use Rattle.filling.specs.Runs.{Placed}
use Rattle.filling.specs.Shown.{cell_of, CellsShow, ResultOf, ResultsShow}
use Rattle.filling.specs.Private.{placed_at, Paintable, Painted, Resulted}

-- cell j is the cell of a slot and a cycle
pub cell_at : (cells : List ℕ) (j : ℕ) → cell_of cells (j / 64 + 1) (j % 64) ≡ get_or cells j 0
cell_at cells j = let at : 64 * (j / 64 + 1 - 1) + j % 64 ≡ j = omega arith in ap (λ (i : ℕ). get_or cells i 0) at

-- ---- words written from the front on, and cells cleared

-- each of the first n words is as P asks, and all from n on are as they were
pub record Front (P : ℕ → ℕ → Type 0) (entry exit : List ℕ) (n : ℕ) : Type 0 where
  pub same_length : length exit ≡ length entry
  pub first : (j : ℕ) → j < n → P j (get_or exit j 0)
  pub later : (j : ℕ) → n ≤ j → get_or exit j 0 ≡ get_or entry j 0

module _ (P : ℕ → ℕ → Type 0) (entry : List ℕ) where
  pub front_none : Front P entry entry 0
  front_none = record { same_length = refl; first = λ j l. absurd (omega arith); later = λ j l. refl }

  pub front_next : (exit : List ℕ) (n x : ℕ) → Front P entry exit n → n < length entry → P n x
      → Front P entry (set exit n x) (n + 1)
  front_next exit n x f h p =
      record {
        same_length = length-set exit n x ∙ f.same_length;
        first =
            below_more (λ (j : ℕ). P j (get_or (set exit n x) j 0)) n
            (λ j l. rw (get_or-set_other exit n j x 0 (λ e. omega arith)) (f.first j l))
            (rw (get_or-set_same exit n x 0 (omega (arith, f.same_length))) p);
        later = λ j l. get_or-set_other exit n j x 0 (λ e. omega arith) ∙ f.later j (omega arith);
      }

-- the first cells cleared
abbrev pub Cleared : (entry cells : List ℕ) → ℕ → Type 0
Cleared = Front (λ j x. x ≡ 0)

pub clearing_all : (slots : ℕ) (entry cells : List ℕ) (j : ℕ) → Cleared entry cells j → j ≡ 64 * slots
    → CellsShow slots [] entry cells
clearing_all slots entry cells j f e =
    record {
      same_length = f.same_length;
      holds = λ p k c m. absurd (Memᴰ.not-nil m);
      empty = λ k c b l n. f.first (64 * (k - 1) + c) (omega arith);
      later = λ i l. f.later i (omega arith);
    }

-- all cells of the slots 0, and those behind them as they were
pub cleared : (slots : ℕ) (entry cells : List ℕ) → 64 * slots ≤ length entry
    → cells ≡ replicate (64 * slots) 0 ++ drop (64 * slots) entry → CellsShow slots [] entry cells
cleared slots entry cells h e =
    let n = 64 * slots in
    let long = length-replicate {A = ℕ} n 0 in
    clearing_all slots entry cells n
    (record {
      same_length = ap length e ∙ length-append (replicate n 0) (drop n entry) ∙ omega (arith, long, length-drop n entry);
      first = λ j l. grind (arith, common_steps, e);
      later = λ j l. grind (arith, common_steps, e);
    })
    refl

-- cleared cells show nothing, whatever they were
pub shown_none : {n : ℕ} {entry cells : List ℕ} → CellsShow n [] entry cells → CellsShow n [] cells cells
shown_none g = record { same_length = refl; holds = g.holds; empty = g.empty; later = λ j l. refl }

pub shown_then : {n : ℕ} {ps : List Placed} {entry cells exit : List ℕ}
    → CellsShow n [] entry cells → CellsShow n ps cells exit → CellsShow n ps entry exit
shown_then g h =
    let long = h.same_length ∙ g.same_length in
    record { same_length = long; holds = h.holds; empty = h.empty; later = λ j l. h.later j l ∙ g.later j l }

-- ---- one frame painted

module _ (f : Frame) (signal : ℕ) (entry : List ℕ) where
  abbrev Named : ℕ → Type 0
  Named = Names f.repetition f.base

  -- the frame's cycles below c are painted: so many
  pub record Painting (cells : List ℕ) (c : ℕ) : Type 0 where
    pub same_length : length cells ≡ length entry
    pub times : ℕ
    pub reached : c ≡ f.base + times * f.repetition
    pub holds : (n : ℕ) → n < times → cell_of cells f.slot (f.base + n * f.repetition) ≡ signal
    pub others : (k d : ℕ) → 1 ≤ k → d < 64 → (Sends f k d → ⊥) → cell_of cells k d ≡ cell_of entry k d

  pub painting_none : Painting entry f.base
  painting_none =
      record { same_length = refl; times = 0; reached = omega arith; holds = omega arith; others = omega arith }

  module _ (cells : List ℕ) (c : ℕ) (p : Painting cells c) where
    module _ (can : Paintable entry f) (small : c < 64) where
      abbrev at : ℕ
      at = 64 * (f.slot - 1) + c

      abbrev after : List ℕ
      after = set cells at signal

      one_cell : (k d : ℕ) → 1 ≤ k → d < 64 → 64 * (k - 1) + d ≡ at → Sends f k d
      one_cell k d l h e =
          let r = can.frame in
          let again : d ≡ f.base + p.times * f.repetition = omega (arith, r.slot, p.reached) in
          (omega (arith, r.slot), record { repetition = r.repetition; base = r.base; again = (p.times, again) })

      earlier : (n : ℕ) → n < p.times → f.base + n * f.repetition < c
      earlier n l =
          let R = f.repetition in
          omega (arith, mul-le-mul_right R l, suc-mul n R, repetition_positive R can.frame.repetition, p.reached)

      pub painting_next : Painting after (c + f.repetition)
      painting_next =
          record {
            same_length = length-set cells at signal ∙ p.same_length;
            times = p.times + 1;
            reached = omega (arith, p.reached);
            holds =
                below_more (λ (n : ℕ). cell_of after f.slot (f.base + n * f.repetition) ≡ signal) p.times
                (λ n l. get_or-set_other cells at _ signal 0 (λ q. omega (arith, earlier n l)) ∙ p.holds n l)
                (rw (sym p.reached)
                (get_or-set_same cells at signal 0 (omega (arith, p.same_length, can.frame.slot, can.room))));
            others = λ k d l h n.
                get_or-set_other cells at (64 * (k - 1) + d) signal 0 (λ e. n (one_cell k d l h e))
                ∙ p.others k d l h n;
          }

    pub painting_all : 64 ≤ c → Painted (placed_at signal f) entry cells
    painting_all h =
        record {
          same_length = p.same_length;
          holds = λ k d l s. rw (sym s.0, s.1.again.1) (p.holds s.1.again.0 (seen s.1 l));
          others = p.others;
        }
      where
        seen : {d : ℕ} (n : Named d) → d < 64 → n.again.0 < p.times
        seen n l =
            dite (dec_lt n.again.0 p.times) (λ k. k) (λ k.
            let past : p.times ≤ n.again.0 = omega arith in
            absurd (omega (arith, mul-le-mul_right f.repetition past, n.again.1, p.reached)))

-- ---- one frame more

-- what holds of each frame shown and of one more holds of each
each_more : (P : Placed → Type 0) (ps : List Placed) (p : Placed) → ((q : Placed) → Memᴰ q ps → P q) → P p
    → (q : Placed) → Memᴰ q (ps ++ p ∷ []) → P q
each_more P ps p h one q m =
    ⊎_elim (h q) (λ i. subst P (sym (Memᴰ.eq_of_singleton i)) one) (Memᴰ.append_cases ps m)

-- ---- in the cells

module _ {n : ℕ} {ps : List Placed} {entry cells : List ℕ} (g : CellsShow n ps entry cells) (p : Placed)
    (right : (q : Placed) → Memᴰ q (ps ++ p ∷ []) → FrameInRange n q.frame)
    (apart : (q : Placed) (k c : ℕ) → Memᴰ q ps → Sends q.frame k c → Sends p.frame k c → q ≡ p)
    (exit : List ℕ) (painted : Painted p cells exit)
  where
    its_range : FrameInRange n p.frame
    its_range = right p (Memᴰ.append_right ps (Memᴰ.head refl))

    -- a cell of a frame shown before is not painted over by another
    still : (k c : ℕ) → c < 64 → (q : Placed) → Memᴰ q ps → Sends q.frame k c → cell_of exit k c ≡ q.signal
    still k c l q m s =
        let low = (right q (Memᴰ.append_left (p ∷ []) m)).slot.0 in
        dite (sends_or_not p.frame its_range k c)
        (λ t. painted.holds k c l t ∙ ap (λ (x : Placed). x.signal) (sym (apart q k c m s t)))
        (λ t. painted.others k c (omega (arith, s.0)) l t ∙ g.holds q k c m l s)

    pub cells_more : CellsShow n (ps ++ p ∷ []) entry exit
    cells_more =
        record {
          same_length = painted.same_length ∙ g.same_length;
          holds = λ q k c m l.
              each_more (λ x. Sends x.frame k c → cell_of exit k c ≡ x.signal) ps p (still k c l)
              (painted.holds k c l) q m;
          empty = λ k c b l none.
              painted.others k c b.0 l (none p (Memᴰ.append_right ps (Memᴰ.head refl)))
              ∙ g.empty k c b l (λ q m. none q (Memᴰ.append_left (p ∷ []) m));
          later = λ j h.
              let unsent : Sends p.frame (j / 64 + 1) (j % 64) → ⊥ = λ s. omega (arith, s.0, its_range.slot) in
              sym (cell_at exit j)
              ∙ painted.others (j / 64 + 1) (j % 64) (omega arith) (omega arith) unsent
              ∙ cell_at cells j
              ∙ g.later j h;
        }

-- ---- in the results

module _ {s : Settings} {list : List ℕ} {ps : List Placed} {entry results : List ℕ}
    (g : ResultsShow s list ps entry results) (p : Placed) (room : result_size * count list ≤ length entry)
    (own : (q : Placed) → Memᴰ q (ps ++ p ∷ []) → Between 1 (count list) q.signal)
    (only : (q : Placed) → Memᴰ q ps → q.signal ≡ p.signal → q ≡ p) (exit : List ℕ)
    (put : Resulted s list p results exit)
  where
    abbrev now : List ℕ
    now = stored results (result_start p.signal) (words_of put.result)

    -- the result of a place is shown
    abbrev Right : Placed → Type 0
    Right q = ResultOf s list q (result_at (λ d. get_or now d 0) q.signal)

    its_place : Between 1 (count list) p.signal
    its_place = own p (Memᴰ.append_right ps (Memᴰ.head refl))

    its_result : Right p
    its_result =
        let fits : result_start p.signal + result_size ≤ length results = omega (arith, its_place, g.same_length) in
        subst (ResultOf s list p) (sym (result_stored results p.signal put.result fits)) put.right

    -- the result of a frame shown before is not written over by another's
    other_result : (q : Placed) → Memᴰ q ps → Right q
    other_result q m =
        let low = (own q (Memᴰ.append_left (p ∷ []) m)).0 in
        dite (ℕ_discrete q.signal p.signal) (λ e. subst Right (sym (only q m e)) its_result) (λ n.
        let kept = result_others results p.signal put.result q.signal its_place.0 low n in
        subst (ResultOf s list q) (sym kept) (g.shown q m))

    pub results_more : ResultsShow s list (ps ++ p ∷ []) entry exit
    results_more =
        subst (ResultsShow s list (ps ++ p ∷ []) entry) (sym put.put)
        (record {
          same_length = stored_length results (result_start p.signal) (words_of put.result) ∙ g.same_length;
          shown = each_more Right ps p other_result its_result;
          later = λ j h.
              stored_others results (result_start p.signal) (words_of put.result) j (λ q. omega (arith, its_place))
              ∙ g.later j h;
        })
