-- Planning into room of its own, its results handed over as bytes: past 6 and 10 its rows are those over the bytes.
-- Assumes nothing.
use mathlib.Core.Path.{◌≡◌, refl}
use mathlib.Core.List.{List}
use mathlib.Core.Logic.{inl, inr}
use Prim.Native.Nat.{ℕ, ◌*◌, ◌≤◌, ◌<◌}
use native.Mathlib.Omega.{arith}
use lib.ListN.{length, take}
use Rattle.laws.specs.Rows.{Hold}
use Rattle.laws.proofs.RowLaws.{past}
use Rattle.std.specs.Prelude.{Err}
use Rattle.terms.specs.declared.Refusal.TheVariants.{Setting, Room}
use Rattle.terms.specs.Answers.{Answer, number_of, Answers}
use Rattle.terms.specs.Requests.{Request, PlanRoom}
use Rattle.terms.specs.Ranges.{LowestOutOfRange}
use Rattle.terms.specs.Lists.{CountInRange, count}
use Rattle.terms.specs.Results.{result_size}
use Rattle.terms.proofs.RangesLaws.{settings_granted, settings_refused}
use Rattle.book.specs.Words.{bytes_after}
use Rattle.planner.specs.Rows.{lent_rows, Needed, signal_rows}
use Rattle.planner.specs.Planned.{Planned}
use Rattle.editor.specs.Rows.{result_bytes, bytes_rows}
use Rattle.editor.specs.Private.{BytesPlanned, PlannedPut}

-- cells for any settings, and words of results for any list
pub record Enough (room : PlanRoom) : Type 0 where
  pub cells : 8192 ≤ length room.cells
  pub results : result_size * 600 ≤ length room.results

module _ {x : Request} (lent : List ℕ) {w : ℕ} (low : LowestOutOfRange x.settings w) where
  pub refused_6 : (w ≡ 0 → ⊥) → BytesPlanned x lent (Err (Setting w)) lent
  refused_6 n =
      record {
        answer = inl (settings_refused x.settings w low n, refl, low);
        refused = λ m. refl;
        done = λ z. absurd (omega arith);
      }

  module _ (e : w ≡ 0) where
    pub refused_10 : length lent < result_bytes x.list → BytesPlanned x lent (Err (Room (result_bytes x.list))) lent
    refused_10 l =
        record {
          answer = inr (settings_granted x.settings w low e, inl ((λ h. omega arith), refl, refl));
          refused = λ m. refl;
          done = λ z. absurd (omega arith);
        }

    -- what comes of a plan of the list into room that is enough
    module _ (l : result_bytes x.list ≤ length lent) (right : CountInRange x.list) {room exit : PlanRoom}
        (enough : Enough room) {a : Answer} (planned : Planned x room a exit) where
      answer : Answers (bytes_rows x.settings x.list (length lent)) (Needed x.settings x.list) a
      answer =
          let settings = settings_granted x.settings w low e in
          let rows = lent_rows x (length room.cells) (length room.results) in
          let held : Hold rows = (settings, (right, omega (arith, settings.1.1.0.0, right.few, enough))) in
          let done = Needed x.settings x.list in
          inr (settings, inr (l, past (signal_rows x.settings x.list) done _ _ rows held planned.answer))

      pub refused_later : (number_of a ≡ 0 → ⊥) → BytesPlanned x lent a lent
      refused_later n = record { answer = answer; refused = λ m. refl; done = λ z. absurd (n z) }

      pub bytes_done : number_of a ≡ 0
          → BytesPlanned x lent a (bytes_after (take (result_size * count x.list) exit.results) lent)
      bytes_done z =
          let shown = planned.done z in
          let long : result_size * count x.list ≤ length exit.results =
          omega (arith, right.few, enough.results, shown.results.same_length) in
          record { answer = answer; refused = λ n. absurd (n z); done = λ y. (room, exit, shown, long, refl) }

      -- its words put as bytes where it is done, and the bytes left where it is not
      pub bytes_put : {b : Answer} {bytes : List ℕ}
          → PlannedPut a (take (result_size * count x.list) exit.results) lent b bytes → BytesPlanned x lent b bytes
      bytes_put put =
          rw put.answer
          (record {
            answer = answer;
            refused = put.refused;
            done = λ z. rw (put.done z) ((bytes_done z).done z);
          })
