-- What holds at the named inputs: which are in range, which repetitions they get, a table, and the books of two of them.
-- Assumes nothing.
use mathlib.Core.Path.{◌≡◌, refl, ap, subst}
use mathlib.Core.List.{List, [], ◌∷◌}
use Prim.Native.Nat.{ℕ, zero, suc, ◌*◌, ◌^◌, ◌≤◌, ◌<◌}
use native.Mathlib.Omega.{arith}
use lib.Dec.{lit≤}
use lib.ListN.{length, get_or}
use Rattle.laws.specs.Rows.{Hold}
use Rattle.laws.specs.Lowest.{EachTo}
use Rattle.laws.proofs.FactTests.{Test, passing, less, join, shown}
use Rattle.laws.proofs.DivisorLaws.{euclid}
use Rattle.terms.specs.declared.Signal.{Signal}
use Rattle.terms.specs.declared.Frame.{Frame}
use Rattle.terms.specs.Ranges.{SignalInRange, Valid, Repetition, FrameInRange}
use Rattle.terms.specs.Lists.{CountInRange, count, EachSignal}
use Rattle.terms.specs.Results.{result_size}
use Rattle.terms.specs.Requests.{PlanRoom}
use Rattle.age.proofs.RangeTests.{valid_test}
use Rattle.rule.specs.Rule.{Keeps, segment, Largest}
use Rattle.rule.proofs.RuleTests.{gets_test, keeps_at, keeps_flag, span_divisor}
use Rattle.cycles.specs.Frames.{Names}
use Rattle.filling.specs.Drawn.{Drawn}
use Rattle.book.specs.Words.{AllBelow}
use Rattle.book.specs.Blocks.{AreWords, blocks_for, book_of}
use Rattle.book.specs.Reading.{signals_of, settings_in, list_in, book_rows}
use Rattle.book.proofs.WrittenLaws.{written_length, written_sound, written_count, written_back, written_list}
use Rattle.promises.specs.Shows.{over_words}
use Rattle.promises.specs.Tables.{Table}
use Rattle.promises.specs.Demand3.{Ready}
use Rattle.promises.proofs.Inputs.{settings, asked, fresh, stale, half, case1, case3, pair}

pub fresh_valid : Valid settings fresh
fresh_valid = (valid_test settings fresh).1 tt

pub stale_valid : Valid settings stale
stale_valid = (valid_test settings stale).1 tt

half_valid : Valid settings half
half_valid = (valid_test settings half).1 tt

-- the largest repetition that keeps a signal's bound
abbrev pub Gets : Signal → ℕ → Type 0
Gets x R = Largest (Keeps settings x (segment settings)) R

-- case 1: R is 1
pub fresh_gets : Gets fresh 1
unfolding euclid keeps_at keeps_flag span_divisor
fresh_gets = (gets_test settings fresh 1).1 tt fresh_valid

-- case 3: refused 8
pub stale_gets : Gets stale 0
unfolding euclid keeps_at keeps_flag span_divisor
stale_gets = (gets_test settings stale 0).1 tt stale_valid

pub half_gets : Gets half 2
unfolding euclid keeps_at keeps_flag span_divisor
half_gets = (gets_test settings half 2).1 tt half_valid

pub fresh_keeps : Keeps settings fresh (segment settings) 1
fresh_keeps = (fresh_gets.has (λ e. omega (arith, e))).1

pub one : Repetition 1
one = (0, lit≤ tt, refl)

-- a frame of repetition 1 goes out in every cycle
pub every : (c : ℕ) → Names 1 0 c
every c = record { repetition = one; base = lit≤ tt; again = (c, omega arith) }

-- what holds of the first signal of one
pub at_one : (P : ℕ → Type 0) → P 1 → EachTo 1 P
at_one P p i b = subst P (omega (arith, b)) p

-- a frame in range is drawn rightly where it is the only one
pub alone : {group : ℕ → ℕ} (n : ℕ) (frame : ℕ → Frame) → FrameInRange n (frame 1) → Drawn n 1 group frame
alone {group} n frame in_range =
    record { frames = at_one _ in_range; apart = omega arith; one_group = λ i j a b e. ap group (omega arith) }

-- slot 1, every cycle; and that this is a table for case 1
abbrev pub slot1 : Frame
slot1 = record { slot = 1; repetition = 1; base = 0 }

pub slot1_in_range : FrameInRange settings.slots slot1
slot1_in_range = record { slot = (lit≤ tt, lit≤ tt); repetition = one; base = lit≤ tt }

pub case1_table : Table settings case1 (λ i. slot1)
case1_table = record { drawn = alone settings.slots (λ i. slot1) slot1_in_range; keeps = at_one _ fresh_keeps }

-- valid settings, a valid list and room
pub case1_count : CountInRange case1
case1_count = record { whole = refl; few = lit≤ tt }

module _ (l : PlanRoom) (cells : 5952 ≤ length l.cells) where
  pub ready : (list : List ℕ) → CountInRange list → EachSignal list (SignalInRange settings)
      → result_size * count list ≤ length l.results → Ready over_words (asked list) l
  ready list whole signals results =
      record { settings = fresh_valid.settings; whole = whole; signals = signals; enough = (cells, results) }

  pub case1_ready : result_size ≤ length l.results → Ready over_words (asked case1) l
  case1_ready = ready case1 case1_count (at_one _ fresh_valid.signal)

  pub case3_ready : result_size ≤ length l.results → Ready over_words (asked case3) l
  case3_ready = ready case3 (record { whole = refl; few = lit≤ tt }) (at_one _ stale_valid.signal)

-- ---- the books of case 1 and of `pair`

-- a list whose numbers are all below n, tested one by one
abbrev pub below_test : (n : ℕ) (l : List ℕ) → 0 < n → Test (AllBelow n l)
below_test n [] p = passing (λ i. p)
below_test n (x ∷ l) p = shown (λ h i. elim i as (λ k. get_or (x ∷ l) k 0 < n) [ zero ↦ h.0 | suc i ↦ h.1 i ]) (join (less x n) (below_test n l p))

pub are_words : AreWords settings
are_words = record { cycle = lit≤ tt; slot = lit≤ tt; slots = lit≤ tt; packing = lit≤ tt; payload = lit≤ tt }

-- a book of these settings is sound, and its words are its values
pub record BookHolds (list : List ℕ) : Type 0 where
  pub sound : Hold (book_rows (book_of settings list))
  pub settings_back : settings_in (book_of settings list) ≡ settings
  pub list_back : list_in (book_of settings list) ≡ list
  pub signals : signals_of (book_of settings list) ≡ count list
  pub bytes : length (book_of settings list) ≡ 512 * blocks_for (count list)

book_holds : (list : List ℕ) → AllBelow (2 ^ 32) list → CountInRange list → BookHolds list
book_holds list words right =
    record {
      sound = written_sound settings list are_words words right;
      settings_back = written_back settings list are_words words right;
      list_back = written_list settings list are_words words right;
      signals = written_count settings list are_words words right;
      bytes = written_length settings list;
    }

pub case1_holds : BookHolds case1
case1_holds = book_holds case1 ((below_test (2 ^ 32) case1 (lit≤ tt)).1 tt) case1_count

pub pair_holds : BookHolds pair
pair_holds = book_holds pair ((below_test (2 ^ 32) pair (lit≤ tt)).1 tt) (record { whole = refl; few = lit≤ tt })
