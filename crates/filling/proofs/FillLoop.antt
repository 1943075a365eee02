-- The loop that fills: what holds before each frame in the order of filling, how it goes on with a frame, and what is
-- shown at its end.
-- Assumes nothing.
use mathlib.Core.Path.{◌≡◌, refl, sym, ap, subst, ◌∙◌}
use mathlib.Core.List.{List, [], ◌∷◌, ◌++◌, append-nil, append_assoc}
use mathlib.Core.List.Memᴰ
use mathlib.Core.List.{Memᴰ}
use Prim.Native.Nat.{ℕ, ◌+◌, ◌*◌, ◌-◌, ◌≤◌, ◌<◌}
use native.Mathlib.Nat.{le_refl}
use native.Mathlib.Numerals.{add-one}
use native.Mathlib.Omega.{arith}
use lib.ListN.{length, get_or, take, drop, set, length-set, drop_of_length-le}
use lib.Seq.{get_or-set_same, get_or-set_other, get_or-take, length-take-le, drop-cons}
use Rattle.std.specs.Prelude.{Some, None, Ok}
use Rattle.terms.specs.declared.Settings.{Settings}
use Rattle.terms.specs.declared.Frame.{Frame}
use Rattle.terms.specs.Ranges.{Repetition, FrameInRange}
use Rattle.terms.specs.Lists.{count, group_of, groups}
use Rattle.filling.specs.declared.UnitFrame.{UnitFrame}
use Rattle.filling.specs.declared.groups.Signals.{Signals}
use Rattle.filling.specs.declared.current.Current.{Current}
use Rattle.filling.specs.Runs.{Placed, State, placed, after}
use Rattle.filling.specs.Filled.{needed, frames_from, fill_from, filled}
use Rattle.filling.specs.Shown.{CellsShow, ResultsShow}
use Rattle.filling.specs.Ordered.{ordered}
use Rattle.filling.specs.Outcomes.{repetition_in, Grouped}
use Rattle.filling.specs.Private.{Holding, Stepped, Paintable, placed_at, FrameShown, Runnable, Ran, FramesGiven, OrderedAll, repetition_of, current_in}
use Rattle.filling.specs.Private.Stepped.{goes, trouble}
use Rattle.filling.proofs.RunLaws.{Fits, goes_case, goes_next}
use Rattle.filling.proofs.GroupLaws.{stepped, stepped_each, Untroubled}
use Rattle.filling.proofs.PlacedLaws.{within}
use Rattle.filling.proofs.LoadLaws.{needed_most}
use Rattle.filling.proofs.FilledLaws.{before, load, states, frames}
use Rattle.filling.proofs.FilledLaws.{filled_own, filled_only, filled_untroubled, filled_range, filled_apart}
use Rattle.filling.proofs.OrderLaws.{in_order_length}
use Rattle.filling.proofs.Gathering.{frames_cut}
use Rattle.filling.proofs.SignalsLaws.{grouped_in}
use Rattle.filling.proofs.ShowLaws.{cells_more, results_more}

no_trouble : {u k load : ℕ} {s : State} {f : UnitFrame} {c : Current} → Fits k load s f → Stepped u s f None c → ⊥
no_trouble h (trouble n) = n (record { below = h.inside.frame.base; free = λ c l e. h.free c e })

-- the words of the list's signals are such as gathering rests on
pub frames_given : (signals : Signals) (m : ℕ) → m ≡ count signals.list.now → FramesGiven (take m signals.repetitions.now)
frames_given signals m e =
    let g = grouped_in signals in
    let words = signals.repetitions.now in
    let long = length-take-le m words (omega (arith, g.given)) in
    record {
      few = omega (arith, long, g.right.few);
      seven = λ i b.
          let same = get_or-take m words (i - 1) 0 (omega (arith, b, long)) in
          subst Repetition (sym same) (g.seven i (omega (arith, b, long)));
    }

-- the frames that the code goes through are those of the list, in order
pub in_order_all : (words : List ℕ) (m : ℕ) (array : List UnitFrame) → m ≤ length words
    → OrderedAll (take m words) array → take m array ≡ ordered (frames_from (repetition_in words) m 1)
in_order_all words m array h e = rw (length-take-le m words h, frames_cut words m) at e

-- the next frame, of those in front of an array
pub next_frame : (list : List ℕ) (R : ℕ → ℕ) (array : List UnitFrame) (i : ℕ) (d : UnitFrame)
    → take (count list) array ≡ frames list R → i < count list
    → drop i (frames list R) ≡ get_or array i d ∷ drop (i + 1) (frames list R)
next_frame list R array i d e h =
    let inside : i < length (frames list R) = omega (arith, in_order_length R (count list)) in
    rw (drop-cons (frames list R) i d inside, add-one i, sym e, get_or-take (count list) array i d h)

-- ---- the loop

module _ (s : Settings) (signals : Signals) (cells₀ results₀ : List ℕ) where
  abbrev list : List ℕ
  list = signals.list.now

  abbrev R : ℕ → ℕ
  R = repetition_of signals

  grouped : Grouped list signals.repetitions.now
  grouped = grouped_in signals

  abbrev group : ℕ → ℕ
  group = group_of list

  abbrev fs : List UnitFrame
  fs = frames list R

  -- the first i frames are placed and shown, and placing the rest is what is left of the filling
  pub record Filling (cells results : List ℕ) (all : List Current) (i : ℕ) : Type 0 where
    pub now : ℕ → State
    pub places : List Placed
    pub left : places ++ fill_from group now (drop i fs) ≡ filled list R
    pub untroubled : Untroubled group (before list R) (load list R) now (drop i fs)
    pub many : length all ≡ groups
    pub holds : (g : ℕ) → g < groups → Holding g (now g) (current_in all g)
    pub table : CellsShow s.slots places cells₀ cells
    pub shown : ResultsShow s list places results₀ results

  -- what is known where frame f is the next: the state of its group, and how filling goes on with what the step gives
  pub record AtFrame (cells results : List ℕ) (all : List Current) (i : ℕ) (f : UnitFrame) : Type 0 where
    pub in_groups : group f.signal < groups
    pub few_begun : (current_in all (group f.signal)).begun ≤ 600
    pub seven : Repetition f.repetition
    pub state : State
    pub holds : (u : ℕ) → u ≡ group f.signal → Holding u state (current_in all u)
    pub untroubled : {u : ℕ} {c : Current} → Stepped u state f None c → ⊥
    pub goes_on : {u : ℕ} (x : Frame) (c : Current) → Stepped u state f (Some x) c → u ≡ group f.signal
        → Paintable cells x
        × ((cells' results' : List ℕ) → FrameShown s list (placed_at f.signal x) cells results cells' results'
        → Filling cells' results' (set all u c) (i + 1))

  module _ (all₀ : List Current) (runs : Runnable s signals all₀ cells₀ results₀) where
    -- nothing is placed
    pub filling_none : length all₀ ≡ groups → Filling cells₀ results₀ all₀ 0
    filling_none l =
        record {
          now = states list R;
          places = [];
          left = refl;
          untroubled = filled_untroubled list R grouped.seven;
          many = l;
          holds = runs.begins;
          table = runs.cleared;
          shown = record { same_length = refl; shown = λ p m. absurd (Memᴰ.not-nil m); later = λ j h. refl };
        }

    in_needed : (p : Placed) → Memᴰ p (filled list R) → FrameInRange (needed list R) p.frame
    in_needed = filled_range list R grouped.seven grouped.group

    in_segment : (p : Placed) → Memᴰ p (filled list R) → FrameInRange s.slots p.frame
    in_segment p m = let r = in_needed p m in within r (omega (arith, r.slot, runs.fits))

    module _ (cells results : List ℕ) (all : List Current) (i : ℕ) (g : Filling cells results all i) where
      -- frame f is the next
      module _ (h : i < count list) (f : UnitFrame) (is : drop i fs ≡ f ∷ drop (i + 1) fs) where
        abbrev own : ℕ
        own = group f.signal

        abbrev p : Placed
        p = placed (g.now own) f

        abbrev later : ℕ → State
        later = stepped group g.now f

        going : Untroubled group (before list R) (load list R) g.now (f ∷ drop (i + 1) fs)
        going = rw is at g.untroubled

        -- it is placed behind those shown
        whole : (g.places ++ p ∷ []) ++ fill_from group later (drop (i + 1) fs) ≡ filled list R
        unfolding fill_from
        whole = rw append_assoc (rw is at g.left)

        among : (q : Placed) → Memᴰ q (g.places ++ p ∷ []) → Memᴰ q (filled list R)
        among q m = subst (Memᴰ q) whole (Memᴰ.append_left (fill_from group later (drop (i + 1) fs)) m)

        earlier : (q : Placed) → Memᴰ q g.places → Memᴰ q (filled list R)
        earlier q m = among q (Memᴰ.append_left (p ∷ []) m)

        here : Memᴰ p (filled list R)
        here = among p (Memᴰ.append_right g.places (Memᴰ.head refl))

        own_group : own < groups
        own_group = grouped.group f.signal (filled_own list R p here).0

        -- the numbers of slots are small
        own_begun : (current_in all own).begun ≤ 600
        own_begun =
            let most = needed_most group R (count list) groups in
            let near = goes_next (goes_case (g.now own)) in
            omega (arith, (g.holds own own_group).begun, (in_needed p here).slot, grouped.right.few)

        -- the step placed the frame at x, and left the slot c
        holds_next : (c : Current) → Holding own (after (g.now own) f) c → (k : ℕ) → k < groups
            → Holding k (later k) (current_in (set all own c) k)
        holds_next c t =
            stepped_each group (λ n s. n < groups → Holding n s (current_in (set all own c) n)) g.now f
            (λ l. rw (get_or-set_same all own c (current_in [] 0) (omega (arith, g.many))) t)
            (λ n d l. rw (get_or-set_other all own n c (current_in [] 0) d) (g.holds n l))

        filling_next : {u : ℕ} (x : Frame) (c : Current) → Stepped u (g.now own) f (Some x) c → u ≡ own
            → Paintable cells x
            × ((cells' results' : List ℕ) → FrameShown s list (placed_at f.signal x) cells results cells' results'
            → Filling cells' results' (set all u c) (i + 1))
        filling_next x c (goes n t) e =
            let r = in_segment p here in
            let room : 64 * x.slot ≤ length cells =
            omega (arith, r.slot, runs.room_cells, g.table.same_length) in
            let apart = filled_apart list R grouped.seven in (
              record { frame = within r (le_refl _); room = room },
              λ cells' results' q.
                  rw e
                  (record {
                    now = later;
                    places = g.places ++ p ∷ [];
                    left = whole;
                    untroubled = going.1;
                    many = length-set all own c ∙ g.many;
                    holds = holds_next c (subst (λ (n : ℕ). Holding n (after (g.now own) f) c) e t);
                    table =
                        cells_more g.table p (λ y m. in_segment y (among y m))
                        (λ y k d m. apart y p (earlier y m) here k d) cells' q.painted;
                    shown =
                        results_more g.shown p runs.room_results (λ y m. (filled_own list R y (among y m)).0)
                        (λ y m. filled_only list R y p (earlier y m) here) results' q.resulted;
                  }),
            )

        pub at_frame : AtFrame cells results all i f
        at_frame =
            record {
              in_groups = own_group;
              few_begun = own_begun;
              seven = going.0.inside.frame.repetition;
              state = g.now own;
              holds = λ u e. rw e (g.holds own own_group);
              untroubled = no_trouble going.0;
              goes_on = filling_next;
            }

      -- all frames are placed
      pub filling_all : count list ≤ i → Ran s signals cells₀ results₀ (Ok tt) cells results
      unfolding fill_from
      filling_all h =
          let past : length fs ≤ i = omega (arith, in_order_length R (count list)) in
          let over : drop i fs ≡ [] = drop_of_length-le fs past in
          let placed_all : g.places ≡ filled list R = rw (over, append-nil) at g.left in
          record { all = refl; table = rw placed_all at g.table; shown = rw placed_all at g.shown }

-- before each frame of the order that the code goes through, what is known of it
module _ (signals : Signals) (m : ℕ) (array : List UnitFrame) (e : m ≡ count signals.list.now)
    (right : OrderedAll (take m signals.repetitions.now) array)
  where
    abbrev in_turn : List UnitFrame
    in_turn = frames signals.list.now (repetition_of signals)

    in_order : take m array ≡ in_turn
    in_order =
        let all = in_order_all signals.repetitions.now m array (omega (arith, (grouped_in signals).given)) right in
        subst (λ (n : ℕ). take m array ≡ ordered (frames_from (repetition_of signals) n 1)) e all

    pub in_order_long : length (take m array) ≡ count signals.list.now
    in_order_long = ap length in_order ∙ in_order_length (repetition_of signals) (count signals.list.now)

    pub at_next : {s : Settings} {cells₀ results₀ cells results : List ℕ} {all₀ all : List Current} {i : ℕ}
        → (d : UnitFrame) → Runnable s signals all₀ cells₀ results₀
        → Filling s signals cells₀ results₀ cells results all i → i < m
        → AtFrame s signals cells₀ results₀ cells results all i (get_or array i d)
    at_next {i = i} d runs g h =
        let before : i < count signals.list.now = omega (arith, e) in
        at_frame _ _ _ _ _ runs _ _ _ i g before (get_or array i d)
        (next_frame signals.list.now (repetition_of signals) array i d (rw e at in_order) before)

    -- the same of the part of the array that they are
    pub at_item : {s : Settings} {cells₀ results₀ cells results : List ℕ} {all₀ all : List Current} {i : ℕ}
        → (d : UnitFrame) → Runnable s signals all₀ cells₀ results₀
        → Filling s signals cells₀ results₀ cells results all i → i < length (take m array)
        → AtFrame s signals cells₀ results₀ cells results all i (get_or (take m array) i d)
    at_item {i = i} d runs g h =
        let before : i < m = omega (arith, in_order_long, e) in
        rw (get_or-take m array i d before) (at_next d runs g before)
