-- All that is promised is kept; so the three ways to plan give one plan.
-- Assumes nothing.
use mathlib.Core.Path.{◌≡◌}
use Rattle.terms.specs.Requests.{Request, PlanRoom}
use Rattle.age.proofs.AgeLaws.{paper_is_age}
use Rattle.promises.specs.Calls.{Return, Plans, PlansList, PlansBook}
use Rattle.promises.specs.Promised.{Promised}
use Rattle.promises.proofs.Demand1.{plan_1, plan_list_1, plan_book_1, read_1, read_c_1, write_1, write_c_1}
use Rattle.promises.proofs.Demand2.{plan_2, plan_list_2, plan_book_2, books_2, books_c_2}
use Rattle.promises.proofs.Demand3.{plan_3, plan_list_3, plan_book_3, plan_fills_3, plan_list_fills, plan_book_fills}
use Rattle.promises.proofs.Determined.{planning_one, AsWords, editor_as_words}

pub promised : Promised
promised =
    record {
      plan = record { one = plan_1; two = plan_2; three = plan_3; filling = plan_fills_3 };
      plan_list = record { one = plan_list_1; two = plan_list_2; three = plan_list_3; filling = plan_list_fills };
      plan_book = record { one = plan_book_1; two = plan_book_2; three = plan_book_3; filling = plan_book_fills };
      books = record { reading = read_1; writing = write_1; books = books_2 };
      formula = λ first span packing slot offset period g d f t. paper_is_age first span packing slot offset period f t g d;
      books_from_c = record { reading = read_c_1; writing = write_c_1; books = books_c_2 };
    }

-- the C call on a list returns what planning returns
pub list_as_plan : (x : Request) (l : PlanRoom) (y y' : Return PlanRoom) → Plans x l y → PlansList x l y' → y ≡ y'
list_as_plan = planning_one Plans PlansList promised.plan promised.plan_list

-- and the editor's results are planning's, of the settings and the list in the book
pub book_as_plan : AsWords PlansBook Plans
book_as_plan = editor_as_words PlansBook Plans promised.plan_book promised.plan
