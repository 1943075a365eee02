-- The statements leave nothing open: two routines that keep them, asked and lent the same, return the same. And the
-- editor plans a book as planning over words does the settings and the list in it.
-- Assumes nothing.
use mathlib.Core.Path.{◌≡◌, ◌∙◌, sym, ap, subst}
use mathlib.Core.List.{List}
use mathlib.Core.Logic.{dite}
use Prim.Native.Nat.{ℕ, ◌*◌, ◌<◌}
use native.Mathlib.Decide.{ℕ_discrete}
use lib.ListN.{length, get_or}
use Rattle.laws.specs.Rows.{Row}
use Rattle.laws.proofs.RowLaws.{Single, one_outcome}
use Rattle.terms.specs.declared.Settings.{Settings}
use Rattle.terms.specs.Requests.{Request, PlanRoom, request, plan_room}
use Rattle.terms.specs.Ranges.{settings_from, setting_word}
use Rattle.terms.specs.Lists.{count}
use Rattle.terms.specs.Results.{result_size}
use Rattle.filling.proofs.Unique.{same_list}
use Rattle.book.specs.Words.{AllBelow, word_at}
use Rattle.book.specs.Reading.{settings_in, list_in}
use Rattle.book.proofs.WordLaws.{same_bytes}
use Rattle.book.proofs.SoundLaws.{reading_single}
use Rattle.planner.proofs.Unique.{needed_one, planning_single}
use Rattle.editor.specs.Rows.{result_bytes}
use Rattle.editor.proofs.Unique.{editor_single}
use Rattle.promises.specs.Calls.{Return, Routine, WhereDone}
use Rattle.promises.specs.Demand1.{Demand1}
use Rattle.promises.specs.Shows.{Planning, over_words, from_book}
use Rattle.promises.specs.Demand2.{Behind, Ages}
use Rattle.promises.specs.Demand3.{Demand3}
use Rattle.promises.specs.Filling.{ShowsFilling}
use Rattle.promises.specs.Promised.{PlanningKeeps, EditorKeeps, BooksKeep}
use Rattle.promises.proofs.OnePlan.{ShownPlan, one_place, one_frame, one_words, one_table}

same : {A : Type 0} {a b c : A} → a ≡ c → b ≡ c → a ≡ b
same d e = d ∙ sym e

-- ---- one number and one place

-- each row gives one place, so two returns are the same if their rooms are where both are done
module _ {Asked Room : Type 0} {rows : Asked → Room → List Row} {done : Asked → ℕ → Type 0}
    {G G' : Routine Asked Room} (d : Demand1 rows done G) (d' : Demand1 rows done G') (x : Asked) (l : Room)
    (single : Single (rows x l)) (one : (p q : ℕ) → done x p → done x q → p ≡ q) (y y' : Return Room) (g : G x l y)
    (g' : G' x l y') where
  one_return : (y.number ≡ 0 → y'.number ≡ 0 → y.lent ≡ y'.lent) → y ≡ y'
  one_return both =
      let (number, place) =
      one_outcome (rows x l) (done x) one single _ _ _ _ (d.numbered x l y g) (d'.numbered x l y' g') in
      let lent =
      dite (ℕ_discrete y.number 0) (λ z. both z (sym number ∙ z))
      (λ n. same (d.unchanged x l y g n) (d'.unchanged x l y' g' (λ z. n (number ∙ z)))) in
      λ k. record { number = number k; place = place k; lent = lent k }

-- ---- one lent room

-- what lies behind the first n stays, so those are all that may differ
same_room : (n : ℕ) (entry : List ℕ) {a b : List ℕ} → Behind n entry a → Behind n entry b
    → ((j : ℕ) → j < n → get_or a j 0 ≡ get_or b j 0) → a ≡ b
same_room n entry h k = same_list n entry h.0 k.0 h.1 k.1

-- ---- planning

-- in either way to plan, where the number is 0
abbrev ShowsPlans : {Asked Room : Type 0} → Planning Asked Room → Routine Asked Room → Type 0
ShowsPlans p G = WhereDone G (λ x l y. ShownPlan (p.settings x) (p.list x) y.place (p.word y.lent))

shows_plans : {Asked Room : Type 0} (p : Planning Asked Room) {G : Routine Asked Room} → Demand3 p G → ShowsFilling p G
    → WhereDone G (λ x l y. Ages p x y.lent) → ShowsPlans p G
shows_plans p three filling ages x l y g z =
    record { accepted = three.accepted x l y g z; filling = filling x l y g z; ages = ages x l y g z }

words_shown : {G : Routine Request PlanRoom} → PlanningKeeps G → ShowsPlans over_words G
words_shown keeps = shows_plans over_words keeps.three keeps.filling keeps.two.ages

bytes_shown : {G : Routine (List ℕ) (List ℕ)} → EditorKeeps G → ShowsPlans from_book G
bytes_shown keeps = shows_plans from_book keeps.three keeps.filling keeps.two.ages

pub planning_one : (G G' : Routine Request PlanRoom) → PlanningKeeps G → PlanningKeeps G'
    → (x : Request) (l : PlanRoom) (y y' : Return PlanRoom) → G x l y → G' x l y' → y ≡ y'
planning_one G G' keeps keeps' x l y y' g g' =
    one_return keeps.one keeps'.one x l (planning_single x l) (needed_one x.settings x.list) y y' g g'
    (λ z z'.
    let two = keeps.two in
    let two' = keeps'.two in
    let a = words_shown keeps x l y g z in
    let a' = words_shown keeps' x l y' g' z' in
    let cells =
    same_room (64 * x.settings.slots) l.cells (two.cells_behind x l y g z) (two'.cells_behind x l y' g' z')
    (one_table x.settings (count x.list) (one_frame a a') (two.table x l y g z) (two'.table x l y' g' z')) in
    let results =
    same_room (result_size * count x.list) l.results (two.results_behind x l y g z)
    (two'.results_behind x l y' g' z') (one_words a a') in
    λ k. plan_room (cells k) (results k))

-- of a book, into lent bytes
pub editor_one : (G G' : Routine (List ℕ) (List ℕ)) → EditorKeeps G → EditorKeeps G' → (book l : List ℕ)
    → AllBelow 256 l → (y y' : Return (List ℕ)) → G book l y → G' book l y' → y ≡ y'
editor_one G G' keeps keeps' book l small y y' g g' =
    let list = list_in book in
    one_return keeps.one keeps'.one book l (editor_single book (length l))
    (needed_one (settings_in book) list) y y' g g'
    (λ z z'.
    let two = keeps.two in
    let two' = keeps'.two in
    same_room (result_bytes list) l (two.behind book l y g z) (two'.behind book l y' g' z')
    (same_bytes y.lent y'.lent (result_size * count list) (λ j h. two.bytes book l y g small j)
    (λ j h. two'.bytes book l y' g' small j) (one_words (bytes_shown keeps book l y g z) (bytes_shown keeps' book l y' g' z'))))

-- "reading, then planning": an accepted book's plan is that of its settings and its list over words
abbrev pub AsWords : Routine (List ℕ) (List ℕ) → Routine Request PlanRoom → Type 0
AsWords G H =
    WhereDone G
    (λ book l y.
    (room : PlanRoom) (w : Return PlanRoom) → H (request (settings_in book) (list_in book)) room w → w.number ≡ 0
    → (y.place ≡ w.place) × ((p : ℕ) → p < result_size * count (list_in book) → word_at y.lent p ≡ get_or w.lent.results p 0))

pub editor_as_words : (G : Routine (List ℕ) (List ℕ)) (H : Routine Request PlanRoom) → EditorKeeps G → PlanningKeeps H
    → AsWords G H
editor_as_words G H keeps keeps' book l y g z room w h z' =
    let a = bytes_shown keeps book l y g z in
    let a' = words_shown keeps' _ room w h z' in
    (one_place a a', one_words a a')

-- ---- books

-- settings are numbers, so it is enough that they are not different: nobody need decide `With`
same_settings : (s s' : Settings) → ((s ≡ s' → ⊥) → ⊥) → s ≡ s'
same_settings s s' h =
    let at : (w : ℕ) → setting_word s w ≡ setting_word s' w =
    λ w. dite (ℕ_discrete _ _) (λ e. e) (λ n. absurd (h (λ e. n (ap (λ (t : Settings). setting_word t w) e)))) in
    λ k. settings_from (λ w. at w k)

module _ (With : ℕ → Type 0) (Reads Reads' : Settings → Routine (List ℕ) (List ℕ))
    (Writes Writes' : Routine Request (List ℕ)) (keeps : BooksKeep With Reads Writes)
    (keeps' : BooksKeep With Reads' Writes') where
  pub reading_one : (book l : List ℕ) (s s' : Settings) (y y' : Return (List ℕ)) → Reads s book l y
      → Reads' s' book l y' → (s ≡ s') × (y ≡ y')
  reading_one book l s s' y y' g g' =
      let here = keeps.books in
      let there = keeps'.books in
      let returned =
      one_return keeps.reading keeps'.reading book l (reading_single book (length l)) (λ p q. same) y y' (s, g)
      (s', g')
      (λ z z'. same (here.list_read s book l y g z) (there.list_read s' book l y' g' z')) in
      let also = subst (Reads' s' book l) (sym returned) g' in
      let settings : (s ≡ s' → ⊥) → ⊥ =
      λ n.
      let without : With y.number → ⊥ =
      λ w. n (same (here.settings_read s book l y g w) (there.settings_read s' book l y also w)) in
      n (same (here.zeros_read s book l y g without) (there.zeros_read s' book l y also without)) in
      (same_settings s s' settings, returned)

  pub writing_one : (x : Request) (l : List ℕ) (y y' : Return (List ℕ)) → Writes x l y → Writes' x l y' → y ≡ y'
  writing_one x l y y' g g' =
      one_return keeps.writing keeps'.writing x l ((λ p q. same), ((λ p q. same), tt)) (λ p q. same) y y' g g'
      (λ z z'. same (keeps.books.written x l y g z) (keeps'.books.written x l y' g' z'))
