-- `plans::of_book` meets its contract: reading, then planning what was read.
-- Assumes nothing.
use Rattle.std.proofs.Common.{◌≡◌, ◌*◌, length, arith}
use Rattle.std.proofs.lemmas.Result.{err_from_is_err_and}
use Rattle.book.proofs.ReadLaws.{read_gives}
use Rattle.terms.specs.Results.{result_size}
use Rattle.plans.proofs.OfBookLaws.{planned_of_book, refused_of_book}
use Rattle.plans.proofs.of_book.Goals as goal

pub returns-in_err-used-clause-refused : goal.returns-in_err-used-clause-refused
returns-in_err-used-clause-refused c =
    let cells : length c.args.plan.now.cells ≡ 8192 = omega arith in
    let results : length c.args.plan.now.results ≡ result_size * 600 = omega arith in
    let (e, is, same) = err_from_is_err_and c.from_residual-in_err-used.result c.from_residual-in_err-used.ensures.1 in
    rw (is, same) (refused_of_book c.in_ok-reading.ensures cells results c.in_err-used.ensures)

pub returns-clause-done : goal.returns-clause-done
returns-clause-done c =
    let g = read_gives c.in_ok-reading.ensures in
    record {
      sound = g.sound;
      settings = g.settings;
      signals = g.signals;
      list = c.in_ok-reading.ensures.done.1;
      planned = planned_of_book c.in_ok-reading.ensures c.in_ok-used.ensures;
    }
