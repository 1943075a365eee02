-- All that is promised, routine by routine.
use Rattle.std.specs.Prelude.{◌≡◌, List, ◌⊎◌, ℕ}
use Rattle.terms.specs.declared.Settings.{Settings}
use Rattle.terms.specs.Requests.{Request, PlanRoom}
use Rattle.age.specs.Formula.{PaperIsAge}
use Rattle.promises.specs.Calls.{Routine, Plans, PlansList, PlansBook, Reads, ReadsFromC, Writes, WritesFromC}
use Rattle.promises.specs.Shows.{over_words, from_book}
use Rattle.promises.specs.Demand1.{Demand1Planning, Demand1Editor, Demand1Reading, Demand1Writing}
use Rattle.promises.specs.Demand2.{Demand2Planning, Demand2Editor, Demand2Books}
use Rattle.promises.specs.Demand3.{Demand3}
use Rattle.promises.specs.Filling.{ShowsFilling}

-- of planning over words
pub record PlanningKeeps (Gives : Routine Request PlanRoom) : Type 1 where
  pub one : Demand1Planning Gives
  pub two : Demand2Planning Gives
  pub three : Demand3 over_words Gives
  pub filling : ShowsFilling over_words Gives

-- of planning a book
pub record EditorKeeps (Gives : Routine (List ℕ) (List ℕ)) : Type 1 where
  pub one : Demand1Editor Gives
  pub two : Demand2Editor Gives
  pub three : Demand3 from_book Gives
  pub filling : ShowsFilling from_book Gives

-- of reading and writing a book; the settings are given with the numbers `With`
pub record BooksKeep
    (With : ℕ → Type 0)
    (GivesRead : Settings → Routine (List ℕ) (List ℕ))
    (GivesWritten : Routine Request (List ℕ))
    : Type 1
  where
    pub reading : Demand1Reading GivesRead
    pub writing : Demand1Writing GivesWritten
    pub books : Demand2Books With GivesRead GivesWritten

-- of all routines, and of the paper's formula; from C settings are asked for by themselves, so a lent list that is too
-- short, number 10, does not keep them back
pub record Promised : Type 1 where
  pub plan : PlanningKeeps Plans
  pub plan_list : PlanningKeeps PlansList
  pub plan_book : EditorKeeps PlansBook
  pub books : BooksKeep (λ n. n ≡ 0) Reads Writes
  pub formula : PaperIsAge
  pub books_from_c : BooksKeep (λ n. (n ≡ 0) ⊎ (n ≡ 10)) ReadsFromC WritesFromC
