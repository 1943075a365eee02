-- Every routine keeps demand 2: plans over words and of a book; and books that are read and written, also from C.
-- Assumes nothing.
use mathlib.Core.Path.{◌≡◌, refl, ◌∙◌, sym, ap, subst}
use mathlib.Core.List.{List, [], ◌∷◌, ◌++◌}
use mathlib.Core.Logic.{◌⊎◌, inl, inr, ⊎_elim, dite}
use Prim.Native.Nat.{ℕ, ◌*◌, ◌≤◌}
use native.Mathlib.Decide.{ℕ_discrete, dec_lt}
use native.Mathlib.Omega.{arith}
use lib.ListN.{length, take, drop}
use Rattle.std.specs.Prelude.{Option, None, Some, Result, Ok, Err, unwrap_or, option_map}
use Rattle.laws.specs.Rows.{Row}
use Rattle.laws.specs.Lowest.{Between}
use Rattle.laws.proofs.RowLaws.{front_number, past}
use Rattle.terms.specs.declared.Settings.{Settings}
use Rattle.terms.specs.declared.Refusal.{Refusal}
use Rattle.terms.specs.Answers.{number_of, place_of, room_row}
use Rattle.terms.proofs.AnswersLaws.{refusal_numbered}
use Rattle.terms.specs.Requests.{Request, PlanRoom}
use Rattle.terms.specs.Ranges.{setting_word, settings_from}
use Rattle.terms.specs.Lists.{signal_size, count}
use Rattle.book.specs.Words.{AllBelow}
use Rattle.book.specs.Reading.{signals_of, settings_in, five_zeros, list_in, book_rows}
use Rattle.book.specs.declared.Reading.{Reading}
use Rattle.book.specs.Outcomes.{answer_of, ReadOutcome, WriteOutcome}
use Rattle.book.proofs.SoundLaws.{sound_length, sound_or_not}
use Rattle.editor.specs.Rows.{result_bytes}
use Rattle.book.proofs.ReadLaws.{read_gives}
use Rattle.book.proofs.RoundTrips.{write_then_read, read_then_write}
use Rattle.promises.specs.Calls.{Return, Routine, WhereDone, Tells, settings_in_reading, Plans, PlansList, PlansBook, Reads, ReadsFromC, Writes, WritesFromC}
use Rattle.promises.specs.Shows.{frame_of, over_words}
use Rattle.promises.specs.Demand2.{TableShown, Demand2Planning, Demand2Editor, Demand2Books, WrittenBack}
use Rattle.promises.proofs.Accepted.{WordsFound, words_found, list_found, book_found, drawn, ages_shown, plan_accepted}
use Rattle.promises.proofs.Cells.{slots_lit, table_shown}
use Rattle.promises.proofs.Demand1.{book_plans, c_reads, read_c_1, c_writes}

-- ---- plans

-- over words, of any routine that finds and shows a plan
words_2 : {G : Routine Request PlanRoom} → WhereDone G (λ x l y. WordsFound x l y.place y.lent)
    → Demand2Planning G
words_2 {G} finds =
    record {
      ages = λ x l y g z. ages_shown (finds x l y g z).found;
      table = table;
      cells_behind = λ x l y g z. let f = finds x l y g z in (f.cells.same_length, f.cells.later);
      results_behind = λ x l y g z. (finds x l y g z).behind;
      slots = λ x l y g z.
          let f = (finds x l y g z).found in
          slots_lit x.settings (count x.list) _ y.lent.cells (drawn f).frames (table x l y g z)
          ∙ (plan_accepted f).used;
    }
  where
    table : WhereDone G
        (λ x l y. TableShown x.settings (count x.list) (frame_of (over_words.word y.lent)) y.lent.cells)
    table x l y g z =
        let f = finds x l y g z in
        table_shown x.settings x.list f.found.R l.cells y.lent.cells f.cells _
        (drawn f.found).frames (λ q m. (f.found.results q m).frame)

pub plan_2 : Demand2Planning Plans
plan_2 = words_2 words_found

pub plan_list_2 : Demand2Planning PlansList
plan_list_2 = words_2 list_found

pub plan_book_2 : Demand2Editor PlansBook
plan_book_2 =
    record {
      ages = λ book l y g z. ages_shown (book_found book l y g z).found;
      behind = λ book l y g z. (book_found book l y g z).behind;
      -- a refusal changes nothing; else the results are bytes, and what lies behind stays
      bytes = λ book l y g below j.
          let (a, p, t) = book_plans book l y g in
          dite (ℕ_discrete (number_of a) 0)
          (λ z.
          let shown = p.done z in
          dite (dec_lt j (result_bytes (list_in book))) (shown.bytes j)
          (λ n. omega (arith, shown.later j (omega arith), below j)))
          (λ n. rw (p.refused n) (below j));
    }

-- ---- books

-- what a reading gives where its number is 0
record Accepted (b l : List ℕ) (r : Result Reading Refusal) (exit : List ℕ) : Type 0 where
  settings : settings_in_reading r ≡ settings_in b
  list : exit ≡ list_in b ++ drop (signal_size * signals_of b) l

accepted : {b l exit : List ℕ} (r : Result Reading Refusal) → ReadOutcome b l r exit → number_of (answer_of r) ≡ 0
    → Accepted b l r exit
accepted (Ok x) read z = record { settings = read.done.0; list = read.done.1 }
accepted (Err e) read z = absurd (refusal_numbered e z)

-- and the settings where it is not
refused_zeros : (r : Result Reading Refusal) → (number_of (answer_of r) ≡ 0 → ⊥) → settings_in_reading r ≡ five_zeros
refused_zeros (Ok x) n = absurd (n refl)
refused_zeros (Err e) n = refl

-- what is read is written back
bytes_back : {s : Settings} {book l room : List ℕ} {y w : Return (List ℕ)} (r : Result Reading Refusal)
    → ReadOutcome book l r y.lent → s ≡ settings_in_reading r → Tells (answer_of r) y → y.number ≡ 0 → AllBelow 256 book
    → Writes (record { settings = s; list = take (signal_size * y.place) y.lent }) room w → length book ≤ length room
    → WrittenBack book room w
bytes_back (Err f) read e t z bytes gives enough = absurd (refusal_numbered f (sym t.0 ∙ z))
bytes_back {s} {book} {room = room} {y} {w} (Ok v) read e t z bytes (a, out, u) enough =
    let values : record { settings = s; list = take (signal_size * y.place) y.lent }
    ≡ record { settings = v.settings; list = take (signal_size * v.signals) y.lent } =
    λ i. record { settings = e i; list = take (signal_size * t.1 i) y.lent } in
    let given =
    read_then_write bytes read enough (subst (λ (q : Request). WriteOutcome q.settings q.list room a w.lent) values out) in
    record {
      accepted = u.0 ∙ given.0;
      blocks = omega (arith, u.1, given.1, (sound_length book (read_gives read).sound).whole);
      bytes = given.2;
    }

pub books_2 : Demand2Books (λ n. n ≡ 0) Reads Writes
books_2 =
    record {
      settings_read = λ s book l y (r, read, e, t) z. e ∙ (accepted r read (sym t.0 ∙ z)).settings;
      zeros_read = λ s book l y (r, read, e, t) n. e ∙ refused_zeros r (λ z. n (t.0 ∙ z));
      list_read = λ s book l y (r, read, e, t) z. (accepted r read (sym t.0 ∙ z)).list;
      written = λ x l y (a, w, t) z. w.done (sym t.0 ∙ z);
      same_values = λ x room w (a, out, t) z settings words s book l y (r, read, e, u) same enough.
          let blocks : book ≡ take (512 * place_of a) w.lent = same ∙ ap (λ (n : ℕ). take (512 * n) w.lent) t.1 in
          let given =
          write_then_read settings words out (sym t.0 ∙ z) enough (subst (λ (b : List ℕ). ReadOutcome b l r y.lent) blocks read) in
          record {
            accepted = u.0 ∙ ap (λ q. number_of (answer_of q)) given.0;
            signals = u.1 ∙ ap (λ q. place_of (answer_of q)) given.0;
            settings = e ∙ ap settings_in_reading given.0;
            words = given.1;
          };
      same_bytes = λ s book l y (r, read, e, t) z bytes x room w gives same enough.
          bytes_back r read e t z bytes (subst (λ (q : Request). Writes q room w) same gives) enough;
    }

-- settings from C come word by word: those of a sound book, else five zeros; it is sound where the number is 0 or 10
module _ (s : Settings) (book l : List ℕ) (y : Return (List ℕ)) (p : ReadsFromC s book l y) where
  c_settings_are : (o : Option Settings) → ((w : ℕ) → (p.2.1 w).settings ≡ o)
      → s ≡ settings_from (λ w. unwrap_or (option_map (λ t. setting_word t w) o) 0)
  c_settings_are o same =
      let (word, told, e) = p.2 in
      let h : (w : ℕ) → word w ≡ unwrap_or (option_map (λ t. setting_word t w) o) 0 =
      λ w. (told w).answer ∙ ap (λ o. unwrap_or (option_map (λ t. setting_word t w) o) 0) (same w) in
      e ∙ λ i. settings_from (λ w. h w i)

  abbrev last : List Row
  last = room_row (signal_size * signals_of book) (length l) ∷ []

  c_settings : (y.number ≡ 0) ⊎ (y.number ≡ 10) → s ≡ settings_in book
  c_settings g =
      c_settings_are (Some (settings_in book)) (λ w.
      (p.2.1 w).outcome.sound (⊎_elim (λ h. h) (λ n.
      let b =
      front_number (Between 1 5) (book_rows book) last (λ q. q ≡ signals_of book) _ _ (omega arith) n
      (read_c_1.numbered book l y (s, p)) in
      absurd (⊎_elim (λ z. omega (arith, b, z)) (λ t. omega (arith, b, t)) g)) (sound_or_not book)))

  c_zeros : ((y.number ≡ 0) ⊎ (y.number ≡ 10) → ⊥) → s ≡ five_zeros
  c_zeros n =
      c_settings_are None (λ w.
      (p.2.1 w).outcome.unsound (λ h.
      ⊎_elim (λ f. n (inr f.1)) (λ f. n (inl f.1.0))
      (past last (λ q. q ≡ signals_of book) _ _ (book_rows book) h (read_c_1.numbered book l y (s, p)))))

-- where the reading is done, the settings are those that it gives
c_reads_done : (s : Settings) → WhereDone (ReadsFromC s) (Reads s)
c_reads_done s book l y p z =
    let (q, (r, read, e, t)) = c_reads book l s y p in
    (r, read, c_settings s book l y p (inl z) ∙ sym (accepted r read (sym t.0 ∙ z)).settings, t)

pub books_c_2 : Demand2Books (λ n. (n ≡ 0) ⊎ (n ≡ 10)) ReadsFromC WritesFromC
books_c_2 =
    record {
      settings_read = c_settings;
      zeros_read = c_zeros;
      list_read = λ s book l y p z. books_2.list_read s book l y (c_reads_done s book l y p z) z;
      written = λ x l y p. books_2.written x l y (c_writes x l y p);
      same_values = λ x room w p z settings words s book l y q same enough.
          let r = c_reads book l s y q in
          let values = books_2.same_values x room w (c_writes x room w p) z settings words in
          let given = values r.0 book l y r.1 same enough in
          values s book l y (c_reads_done s book l y q given.accepted) same enough;
      same_bytes = λ s book l y p z bytes x room w q.
          books_2.same_bytes s book l y (c_reads_done s book l y p z) z bytes x room w (c_writes x room w q);
    }
