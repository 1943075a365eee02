-- Demand 2: "Releases fall exactly at offset plus whole periods, for ever. The age shown is the largest, over all of them, from
-- release to the end of the first frame that starts at least the packing time later. The table shows each frame in the cycles
-- that its base and repetition name, and nowhere else. Writing and reading a book give back the same values and the same bytes."
use Rattle.std.specs.Prelude.{◌≡◌, List, ◌++◌, ◌↔◌, ℕ, ◌+◌, ◌*◌, ◌-◌, ◌%◌, ◌^◌, ◌≤◌, ◌<◌, length, get_or, take, drop}
use Rattle.terms.specs.declared.Settings.{Settings}
use Rattle.terms.specs.declared.Signal.{Signal}
use Rattle.terms.specs.declared.Frame.{Frame}
use Rattle.laws.specs.Lowest.{Between}
use Rattle.terms.specs.Ranges.{FrameInRange}
use Rattle.age.specs.Age.{Start, Release, first_start, span_of, Age}
use Rattle.terms.specs.Requests.{Request, PlanRoom}
use Rattle.terms.specs.Lists.{signal_size, count, signal_at}
use Rattle.terms.specs.declared.SignalResult.{SignalResult}
use Rattle.terms.specs.Results.{result_size, result_at}
use Rattle.cycles.specs.Frames.{Sends}
use Rattle.filling.specs.Shown.{cell_of}
use Rattle.editor.specs.Rows.{result_bytes}
use Rattle.book.specs.Words.{AllBelow}
use Rattle.book.specs.Blocks.{AreWords, blocks_for, book_of}
use Rattle.book.specs.Reading.{signals_of, settings_in, five_zeros, list_in}
use Rattle.promises.specs.Calls.{Return, Routine, Always, WhereDone}
use Rattle.promises.specs.Tables.{slots_shown}
use Rattle.promises.specs.Shows.{frame_of, Planning, over_words, from_book}

-- "Releases fall exactly at offset plus whole periods, for ever." `Release` says so; hence the first is at the offset, each is
-- followed by one a period later with none between, and there is one after any time
pub record Releases (offset period : ℕ) : Type 0 where
  pub first : Release offset period offset
  pub none_before : (r : ℕ) → Release offset period r → offset ≤ r
  pub next : (r : ℕ) → Release offset period r → Release offset period (r + period)
  pub none_between : (r q : ℕ) → Release offset period r → Release offset period q → r < q → r + period ≤ q
  pub for_ever : (t : ℕ) → (r : ℕ) × Release offset period r × (t ≤ r)

-- the starts of the slots and cycles of which `At` holds, the 64 cycles of a table coming again for ever
abbrev pub StartsAt : Settings → (At : (k c : ℕ) → Type 0) → ℕ → Type 0
StartsAt s At t = (n k : ℕ) × At k (n % 64) × (t ≡ n * s.cycle + (k - 1) * s.slot)

-- "The age shown is the largest, over all of them, from release to the end of the first frame that starts at least the packing
-- time later." The frame is one of the segment, and its starts are the cycles that its base and repetition name
pub record AgeShown (s : Settings) (x : Signal) (r : SignalResult) : Type 0 where
  pub releases : Releases x.offset x.period
  pub frame : FrameInRange s.slots r.frame
  pub starts : (t : ℕ) → Start (first_start s r.frame) (span_of s r.frame) t ↔ StartsAt s (Sends r.frame) t
  pub is_age : Age s x r.frame r.age

-- "The table shows each frame in the cycles that its base and repetition name, and nowhere else." Of the frames of m signals. So
-- table and clock are one: the starts of a frame are the cells that show its signal
pub record TableShown (s : Settings) (m : ℕ) (frame : ℕ → Frame) (cells : List ℕ) : Type 0 where
  pub shown : (k c i : ℕ) → Between 1 s.slots k → c < 64 → Between 1 m i → (cell_of cells k c ≡ i) ↔ Sends (frame i) k c
  pub empty :
      (k c : ℕ) →
      Between 1 s.slots k →
      c < 64 →
      (cell_of cells k c ≡ 0) ↔ ((i : ℕ) → Between 1 m i → Sends (frame i) k c → ⊥)
  pub clock :
      (i t : ℕ) →
      Between 1 m i →
      Start (first_start s (frame i)) (span_of s (frame i)) t
      ↔ StartsAt s (λ k c. Between 1 s.slots k × (cell_of cells k c ≡ i)) t

-- what lies behind the first n of what was lent stays
abbrev pub Behind : (n : ℕ) (entry exit : List ℕ) → Type 0
Behind n entry exit = (length exit ≡ length entry) × ((j : ℕ) → n ≤ j → get_or exit j 0 ≡ get_or entry j 0)

-- ---- of planning, where the number is 0

-- the words of a way to plan show the age of each signal, in the frame that they show
abbrev pub Ages : {Asked Room : Type 0} → Planning Asked Room → Asked → Room → Type 0
Ages p x l =
    (i : ℕ) → Between 1 (count (p.list x)) i →
    AgeShown (p.settings x) (signal_at (p.list x) i) (result_at (p.word l) i)

pub record Demand2Planning (Gives : Routine Request PlanRoom) : Type 0 where
  pub ages : WhereDone Gives (λ x l y. Ages over_words x y.lent)
  pub table :
      WhereDone Gives (λ x l y. TableShown x.settings (count x.list) (frame_of (over_words.word y.lent)) y.lent.cells)
  pub cells_behind : WhereDone Gives (λ x l y. Behind (64 * x.settings.slots) l.cells y.lent.cells)
  pub results_behind : WhereDone Gives (λ x l y. Behind (result_size * count x.list) l.results y.lent.results)
  -- "the number is that of slots with a nonzero cell"
  pub slots : WhereDone Gives (λ x l y. slots_shown x.settings.slots y.lent.cells ≡ y.place)

pub record Demand2Editor (Gives : Routine (List ℕ) (List ℕ)) : Type 0 where
  pub ages : WhereDone Gives (λ book l y. Ages from_book book y.lent)
  pub behind : WhereDone Gives (λ book l y. Behind (result_bytes (list_in book)) l y.lent)
  -- what is lent as bytes comes back as bytes
  pub bytes : Always Gives (λ book l y. AllBelow 256 l → AllBelow 256 y.lent)

-- ---- of books

-- what reading gives back of values that were written
pub record GivenBack (x : Request) (l : List ℕ) (s : Settings) (y : Return (List ℕ)) : Type 0 where
  pub accepted : y.number ≡ 0
  pub signals : y.place ≡ count x.list
  pub settings : s ≡ x.settings
  pub words : y.lent ≡ x.list ++ drop (length x.list) l

-- what writing gives back of a book that was read
pub record WrittenBack (book l : List ℕ) (y : Return (List ℕ)) : Type 0 where
  pub accepted : y.number ≡ 0
  pub blocks : 512 * y.place ≡ length book
  pub bytes : y.lent ≡ book ++ drop (length book) l

-- `With` are the numbers with which a reader gives settings: 0, and from C 10 too, for there they are asked for by themselves
pub record Demand2Books
    (With : ℕ → Type 0)
    (Reads : Settings → Routine (List ℕ) (List ℕ))
    (Writes : Routine Request (List ℕ))
    : Type 0
  where
    -- what a book's words mean: reading gives the settings and the list that stand in it, as "The book of blocks" lays it out, and
    -- writing gives that book; what lies behind stays; "a refusal gives five zeros"
    pub settings_read : (s : Settings) → Always (Reads s) (λ book l y. With y.number → s ≡ settings_in book)
    pub zeros_read : (s : Settings) → Always (Reads s) (λ book l y. (With y.number → ⊥) → s ≡ five_zeros)
    pub list_read : (s : Settings) → WhereDone (Reads s) (λ book l y. y.lent ≡ list_in book ++ drop (signal_size * signals_of book) l)
    pub written :
        WhereDone Writes (λ x l y. y.lent ≡ book_of x.settings x.list ++ drop (512 * blocks_for (count x.list)) l)
    -- "Writing and reading a book give back the same values": reading the blocks that were written, into room enough
    pub same_values :
        WhereDone Writes
        (λ x room w.
        AreWords x.settings →
        AllBelow (2 ^ 32) x.list →
        (s : Settings) →
        Always (Reads s)
        (λ book l y. book ≡ take (512 * w.place) w.lent → length x.list ≤ length l → GivenBack x l s y))
    -- "and the same bytes": writing the values that were read, into room enough
    pub same_bytes :
        (s : Settings) →
        WhereDone (Reads s)
        (λ book l y.
        AllBelow 256 book →
        Always Writes
        (λ x room w.
        x ≡ record { settings = s; list = take (signal_size * y.place) y.lent } → length book ≤ length room → WrittenBack book room w))
