-- Programs that look right and are not: no routine that keeps the named demand gives, of the named input, what each of them gives.
-- Assumes nothing.
use mathlib.Core.Path.{◌≡◌, refl, ◌∙◌, sym, ap}
use mathlib.Core.List.{List, [], ◌∷◌}
use mathlib.Core.Logic.{◌⊎◌, ⊎_elim}
use Prim.Native.Nat.{ℕ, ◌+◌, ◌*◌, ◌-◌, ◌≤◌, ◌<◌}
use native.Mathlib.Omega.{arith}
use lib.Dec.{lit≤}
use lib.ListN.{length, get_or, drop, get_or-replicate}
use Rattle.laws.specs.Sums.{sum, same}
use Rattle.laws.specs.Lowest.{Between}
use Rattle.laws.proofs.RowLaws.{past, holds_zero}
use Rattle.laws.proofs.DivisorLaws.{euclid}
use Rattle.terms.specs.declared.Settings.{Settings}
use Rattle.terms.specs.Lists.{signal_size, count, signal_at}
use Rattle.terms.specs.Answers.{room_row}
use Rattle.terms.specs.Requests.{Request, PlanRoom}
use Rattle.age.specs.Age.{Age}
use Rattle.age.proofs.AgeTests.{age_test}
use Rattle.cycles.specs.Frames.{Names}
use Rattle.filling.specs.Shown.{cell_of}
use Rattle.book.specs.Words.{AllBelow, word_at}
use Rattle.book.specs.Blocks.{book_word, book_of, writing_rows}
use Rattle.book.specs.Reading.{signals_of, settings_in, book_rows}
use Rattle.book.proofs.WordLaws.{word_in_front}
use Rattle.promises.specs.Calls.{Return, Routine}
use Rattle.promises.specs.Shows.{frame_of, age_of, over_words, from_book}
use Rattle.promises.specs.Demand1.{Demand1Reading, Demand1Writing}
use Rattle.promises.specs.Demand2.{Demand2Planning, Demand2Editor, Demand2Books}
use Rattle.promises.specs.Demand3.{AcceptedPlan, Demand3}
use Rattle.promises.specs.Filling.{ShowsFilling}
use Rattle.terms.specs.Results.{result_size}
use Rattle.promises.proofs.Inputs.{settings, asked, fresh, half, case1, twice, single, pair, blank, words}
use Rattle.promises.proofs.Inputs.{sixty_four, slot_two, often, invented, spread, colliding, case1_book, pair_book, exchanged}
use Rattle.promises.proofs.Named.{half_gets, every, slot1, case1_table, case1_count, case1_ready, case1_holds, pair_holds}
use Rattle.promises.proofs.Clock.{base_sent}
use Rattle.promises.proofs.OnePlan.{one_age}
use Rattle.promises.proofs.FillingExamples.{lowest_slot_no}

module _ (Gives : Routine Request PlanRoom) where
  -- ---- what breaks demand 2

  module _ (keeps : Demand2Planning Gives) (l : PlanRoom) (y : Return PlanRoom) (z : y.number ≡ 0) where
    -- where a signal is shown, the table has its number in some cell: the first of its frame
    shown_somewhere : (x : Request) → Gives x l y → (i : ℕ) → Between 1 (count x.list) i
        → (k c : ℕ) × Between 1 x.settings.slots k × (c < 64) × (cell_of y.lent.cells k c ≡ i)
    shown_somewhere x g i b =
        let f = frame_of (over_words.word y.lent) i in
        let h = (keeps.ages x l y g z i b).frame in
        let (c, sends) = base_sent h in
        (f.slot, f.base, h.slot, c, ((keeps.table x l y g z).shown f.slot f.base i h.slot c b).1 sends)

    -- one plan for all: case 1 and the empty list cannot have the same table
    pub one_plan_for_all : Gives (asked case1) l y → Gives (asked []) l y → ⊥
    one_plan_for_all g h =
        let (k, c, b, low, at) = shown_somewhere (asked case1) g 1 (lit≤ tt, lit≤ tt) in
        omega (arith, ((keeps.table (asked []) l y h z).empty k c b low).1 (λ i own. absurd (omega arith)))

    -- writes nothing: case 1 in a table lent blank
    pub writes_nothing : Gives (asked case1) l y → y.lent.cells ≡ blank → ⊥
    writes_nothing g e =
        let (k, c, b, low, at) = shown_somewhere (asked case1) g 1 (lit≤ tt, lit≤ tt) in
        let zero = get_or-replicate {A = ℕ} 5952 (64 * (k - 1) + c) 0 0 (omega arith) in
        omega (arith, ap (λ (cells : List ℕ). cell_of cells k c) e, zero)

    -- invents ages: one that is not the definition's, of any signal
    pub invents_ages : (x : Request) → Gives x l y → (i age : ℕ) → Between 1 (count x.list) i
        → Age x.settings (signal_at x.list i) (frame_of (over_words.word y.lent) i) age
        → age_of (over_words.word y.lent) i ≡ age
    invents_ages x g i age b true_age =
        one_age x.settings (signal_at x.list i) _ (keeps.ages x l y g z i b).is_age true_age

  -- ---- what breaks demand 3

  module _ (keeps : Demand3 over_words Gives) (l : PlanRoom) (y : Return PlanRoom) where
    -- refuses all lists: case 1 has a table
    pub refuses_all : 5952 ≤ length l.cells → result_size ≤ length l.results → Gives (asked case1) l y
        → (y.number ≡ 0 → ⊥) → ⊥
    refuses_all cells results g n =
        (keeps.refused_exactly (asked case1) l y g (case1_ready l cells results)).0 n (λ i. slot1) case1_table

    module _ (z : y.number ≡ 0) where
      -- what an accepted plan is, of results that are known
      accepted : (list results : List ℕ) → Gives (asked list) l y → y.lent.results ≡ results
          → AcceptedPlan settings list y.place (frame_of (words results)) (age_of (words results))
      accepted list results g e = rw e at (keeps.accepted (asked list) l y g z)

      -- invents the slots used: at case 1 it gives all that there are, where one would do
      pub invents_slots : Gives (asked case1) l y → y.place ≡ 93 → ⊥
      unfolding sum same
      invents_slots g e =
          let fewer : y.place ≤ 1 = (keeps.accepted (asked case1) l y g z).fewest (λ i. slot1) case1_table in
          omega (arith, e)

      -- .. or beside any true results another number than theirs
      pub invents_any_slots : (x : Request) (w : Return PlanRoom) → Gives x l y → Gives x l w → w.number ≡ 0
          → w.lent.results ≡ y.lent.results → w.place ≡ y.place
      invents_any_slots x w g h n e =
          sym (rw e at (keeps.accepted x l w h n).used) ∙ (keeps.accepted x l y g z).used

      -- places the first signal truly and invents the others: the two frames collide
      pub invents_others : Gives (asked twice) l y → y.lent.results ≡ invented → ⊥
      invents_others g e =
          let t = (accepted twice invented g e).table in
          omega (arith, t.drawn.apart 1 2 1 0 (lit≤ tt, lit≤ tt) (lit≤ tt, lit≤ tt) (lit≤ tt) (refl, every 0) (refl, every 0))

      -- shows repetition 64 with its true age: over the bound
      pub over_the_bound : Gives (asked case1) l y → y.lent.results ≡ sixty_four → ⊥
      over_the_bound g e = omega (arith, (accepted case1 sixty_four g e).bounds 1 (lit≤ tt, lit≤ tt))

      -- shows repetition 1 where the rule gives 2
      pub too_often : Gives (asked single) l y → y.lent.results ≡ often → ⊥
      too_often g e =
          let two = half_gets.has (λ e. omega (arith, e)) in
          omega (arith, ((accepted single often g e).rule 1 (lit≤ tt, lit≤ tt)).largest 2 two.0 two.1)

  -- ---- what breaks the order of filling: the second slot, where the first is not used

  pub second_slot : ShowsFilling over_words Gives → (l : PlanRoom) (y : Return PlanRoom) → y.number ≡ 0
      → Gives (asked case1) l y → y.lent.results ≡ slot_two → ⊥
  second_slot keeps l y z g e = lowest_slot_no (rw e at (keeps (asked case1) l y g z))

-- what they show is true as far as it goes: the ages are the definition's
pub sixty_four_true : Age settings fresh (frame_of (words sixty_four) 1) (age_of (words sixty_four) 1)
unfolding euclid
sixty_four_true = ((age_test settings fresh (frame_of (words sixty_four) 1) 157516).1 tt).1

pub often_true : Age settings half (frame_of (words often) 1) (age_of (words often) 1)
unfolding euclid
often_true = ((age_test settings half (frame_of (words often) 1) 16).1 tt).1

-- ---- from the editor: of the book of `pair`

module _ (Gives : Routine (List ℕ) (List ℕ)) (keeps : Demand3 from_book Gives) (l : List ℕ) (y : Return (List ℕ))
    (z : y.number ≡ 0) (g : Gives pair_book l y) where
  shown_plan : (bytes : List ℕ) → y.lent ≡ bytes
      → AcceptedPlan settings pair y.place (frame_of (word_at bytes)) (age_of (word_at bytes))
  shown_plan bytes e = rw (pair_holds.settings_back, pair_holds.list_back, e) at (keeps.accepted pair_book l y g z)

  -- shows two slots and claims one
  pub claims_one_slot : y.lent ≡ spread → y.place ≡ 1 → ⊥
  unfolding sum same word_at
  claims_one_slot e p = let two : 2 ≡ y.place = (shown_plan spread e).used in omega (arith, p)

  -- shows two frames in slot 1 of cycle 1
  pub shows_collision : y.lent ≡ colliding → ⊥
  unfolding word_at
  shows_collision e =
      let second : Names 2 1 1 = record { repetition = (1, lit≤ tt, refl); base = lit≤ tt; again = (0, refl) } in
      let apart = (shown_plan colliding e).table.drawn.apart 1 2 1 1 (lit≤ tt, lit≤ tt) (lit≤ tt, lit≤ tt) (lit≤ tt) in
      omega (arith, apart (refl, every 1) (refl, second))

-- shows each word in its first byte: an age of 2,516 is none
pub not_a_byte : (Gives : Routine (List ℕ) (List ℕ)) → Demand2Editor Gives → (book l : List ℕ) (y : Return (List ℕ))
    → Gives book l y → AllBelow 256 l → (j : ℕ) → get_or y.lent j 0 ≡ 2516 → ⊥
not_a_byte Gives keeps book l y g below j e = omega (arith, keeps.bytes book l y g below j, e)

-- ---- books

-- a reader that refuses all books, as with 1: every row of the book of case 1 holds
pub refuses_all_books : (Gives : Settings → Routine (List ℕ) (List ℕ)) → Demand1Reading Gives
    → (s : Settings) (l : List ℕ) (y : Return (List ℕ)) → 5 ≤ length l → Gives s case1_book l y → y.number ≡ 0
refuses_all_books Gives keeps s l y enough g =
    let last = room_row (signal_size * signals_of case1_book) (length l) ∷ [] in
    (holds_zero (λ p. p ≡ signals_of case1_book) _ _ last (omega (arith, case1_holds.signals))
    (past last (λ p. p ≡ signals_of case1_book) _ _ (book_rows case1_book) case1_holds.sound
    (keeps.numbered case1_book l y (s, g)))).0

-- a writer that refuses all lists, as with 4: every row of case 1 holds
pub refuses_all_values : (Gives : Routine Request (List ℕ)) → Demand1Writing Gives → (l : List ℕ) (y : Return (List ℕ))
    → 1024 ≤ length l → Gives (asked case1) l y → y.number ≡ 0
refuses_all_values Gives keeps l y enough g =
    (holds_zero (λ p. p ≡ 2) _ _ (writing_rows case1 (length l)) (case1_count, (enough, tt))
    (keeps.numbered (asked case1) l y g)).0

-- a reader whose refusals from C come with settings: number 1 and a cycle of 2,500
pub refuses_with_settings : (Reads : Settings → Routine (List ℕ) (List ℕ)) (Writes : Routine Request (List ℕ))
    → Demand2Books (λ n. (n ≡ 0) ⊎ (n ≡ 10)) Reads Writes → (book l : List ℕ) (y : Return (List ℕ)) → y.number ≡ 1
    → Reads settings book l y → ⊥
refuses_with_settings Reads Writes keeps book l y e r =
    let zeros =
    keeps.zeros_read settings book l y r (⊎_elim (λ z. omega (arith, e, z)) (λ t. omega (arith, e, t))) in
    omega (arith, ap (λ (s : Settings). s.cycle) zeros)

-- a reader and a writer that both take word 2 for the slot length and word 3 for the cycle length
module _ (Reads : Settings → Routine (List ℕ) (List ℕ)) (Writes : Routine Request (List ℕ))
    (keeps : Demand2Books (λ n. n ≡ 0) Reads Writes) (l : List ℕ) (y : Return (List ℕ)) (z : y.number ≡ 0) where
  pub reads_exchanged : Reads (exchanged settings) case1_book l y → ⊥
  reads_exchanged r =
      let read = keeps.settings_read (exchanged settings) case1_book l y r z in
      omega (arith, ap (λ (s : Settings). s.cycle) (read ∙ case1_holds.settings_back))

  pub writes_exchanged : Writes (asked case1) l y → word_at y.lent 2 ≡ 16 → ⊥
  unfolding book_of settings_in
  writes_exchanged w e =
      let front = word_in_front (book_word settings case1) 256 (drop 1024 l) 2 (lit≤ tt) in
      let cycle = ap (λ (s : Settings). s.cycle) case1_holds.settings_back in
      omega (arith, sym e ∙ ap (λ (b : List ℕ). word_at b 2) (keeps.written (asked case1) l y w z) ∙ front ∙ cycle)
