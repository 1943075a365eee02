-- Cells that show the filling show the frames of the results and nothing else, and as many slots are lit as the frames use.
-- Assumes nothing.
use mathlib.Core.Path.{◌≡◌, ◌∙◌, sym, subst, ap}
use mathlib.Core.List.{List, Memᴰ}
use mathlib.Core.Logic.{dite}
use Prim.Native.Nat.{ℕ, ◌<◌, ◌+◌, ◌-◌, min}
use native.Mathlib.Omega.{arith}
use native.Mathlib.Decide.{dec_le}
use native.Mathlib.Nat.{add-sub_of_le}
use Rattle.laws.specs.Lowest.{Between, EachTo}
use Rattle.laws.specs.Sums.{sum, same}
use Rattle.laws.proofs.SumLaws.{sum_ext, sum_zero, sum_term, sum_some, same_equal, same_one}
use Rattle.terms.specs.declared.Settings.{Settings}
use Rattle.terms.specs.declared.Frame.{Frame}
use Rattle.terms.specs.Ranges.{FrameInRange}
use Rattle.terms.specs.Lists.{count}
use Rattle.cycles.specs.Frames.{Sends}
use Rattle.cycles.proofs.FrameLaws.{sends_or_not}
use Rattle.filling.specs.Runs.{Placed}
use Rattle.filling.specs.Filled.{filled}
use Rattle.filling.specs.Shown.{cell_of, CellsShow}
use Rattle.filling.specs.Drawn.{slot_used, slots_used}
use Rattle.filling.proofs.FilledLaws.{filled_own, filled_some}
use Rattle.promises.specs.Demand2.{TableShown}
use Rattle.promises.specs.Tables.{slots_shown}
use Rattle.promises.proofs.Clock.{starts_shown, base_sent}

module _ (s : Settings) (list : List ℕ) (R : ℕ → ℕ) (entry exit : List ℕ)
    (cells : CellsShow s.slots (filled list R) entry exit) (frame : ℕ → Frame)
    (frames : EachTo (count list) (λ i. FrameInRange s.slots (frame i)))
    (shows : (p : Placed) → Memᴰ p (filled list R) → frame p.signal ≡ p.frame) where
  -- a frame's own cells show its signal
  cell_shown : (k c i : ℕ) → c < 64 → Between 1 (count list) i → Sends (frame i) k c → cell_of exit k c ≡ i
  cell_shown k c i l b sends =
      let (p, m, e) = filled_some list R i b in
      let own = subst (λ (j : ℕ). Sends (frame j) k c) (sym e) sends in
      cells.holds p k c m l (subst (λ (f : Frame). Sends f k c) (shows p m) own) ∙ e

  place_sends : (k c : ℕ) (p : Placed) → Memᴰ p (filled list R) → Sends p.frame k c → Sends (frame p.signal) k c
  place_sends k c p m = subst (λ (f : Frame). Sends f k c) (sym (shows p m))

  -- a cell that shows a signal is its frame's: if it were not, no frame would have it, and it would be 0
  shown_sends : (k c i : ℕ) → Between 1 s.slots k → c < 64 → Between 1 (count list) i → cell_of exit k c ≡ i → Sends (frame i) k c
  shown_sends k c i b l own e =
      dite (sends_or_not (frame i) (frames i own) k c) (λ sends. sends)
      (λ n.
      let none : (p : Placed) → Memᴰ p (filled list R) → Sends p.frame k c → ⊥ =
      λ p m t.
      let sends = place_sends k c p m t in
      n (rw (sym (cell_shown k c p.signal l (filled_own list R p m).0 sends) ∙ e) at sends) in
      absurd (omega (arith, cells.empty k c b l none, e, own.0)))

  pub table_shown : TableShown s (count list) frame exit
  table_shown =
      record {
        shown = λ k c i b l at. (shown_sends k c i b l at, cell_shown k c i l at);
        empty = λ k c b l. (
          (λ z i at sends. omega (arith, cell_shown k c i l at sends, z, at.0)),
          λ none. cells.empty k c b l (λ p m t. none p.signal (filled_own list R p m).0 (place_sends k c p m t)),
        );
        clock = starts_shown s (count list) frame exit frames (λ k c i b l at. (shown_sends k c i b l at, cell_shown k c i l at));
      }

-- where cells show the frames of m signals, as many slots have a nonzero cell as the frames use
module _ (s : Settings) (m : ℕ) (frame : ℕ → Frame) (cells : List ℕ) (frames : EachTo m (λ i. FrameInRange s.slots (frame i)))
    (table : TableShown s m frame cells) where
  abbrev in_slot : (k i : ℕ) → ℕ
  in_slot k i = same (frame (1 + i)).slot (1 + k)

  lit_taken : (k : ℕ) → k < s.slots → min 1 (sum (cell_of cells (1 + k)) 64) ≡ slot_used m frame (1 + k)
  lit_taken k h =
      dite (dec_le 1 (sum (in_slot k) m))
      (λ some.
      let (j, l, here) = sum_some (in_slot k) m some in
      let b : Between 1 m (1 + j) = omega arith in
      let (small, sends) = base_sent (frames (1 + j) b) in
      let there =
      (table.shown (1 + k) (frame (1 + j)).base (1 + j) (omega arith) small b).1
      (same_one (frame (1 + j)).slot (1 + k) here, sends.1) in
      omega (arith, sum_term (cell_of cells (1 + k)) 64 (frame (1 + j)).base small, there))
      (λ none.
      let clear : (c : ℕ) → c < 64 → cell_of cells (1 + k) c ≡ 0 =
      λ c l.
      (table.empty (1 + k) c (omega arith) l).1
      (λ i b sends.
      let own : (frame (1 + (i - 1))).slot ≡ 1 + k = ap (λ (j : ℕ). (frame j).slot) (add-sub_of_le b.0) ∙ sends.0 in
      let here = sum_term (in_slot k) m (i - 1) (omega arith) in
      omega (arith, here, same_equal (frame (1 + (i - 1))).slot (1 + k) own)) in
      omega (arith, sum_zero (cell_of cells (1 + k)) 64 clear))

  pub slots_lit : slots_shown s.slots cells ≡ slots_used s.slots m frame
  slots_lit = sum_ext _ (λ k. slot_used m frame (1 + k)) s.slots lit_taken
