-- `editor::plan` meets its contract: reading, then planning what was read.
-- Assumes nothing.
use Rattle.std.proofs.Common.{◌*◌, take, rules}
use Rattle.terms.specs.Lists.{signal_size}
use Rattle.terms.specs.Requests.{request}
use Rattle.book.proofs.ReadLaws.{read_gives}
use Rattle.editor.specs.Private.{BytesPlanned}
use Rattle.editor.proofs.BookLaws.{book_planned, book_refused}
use Rattle.editor.proofs.plan.Goals as goal

pub returns-in_err-reading : goal.returns-in_err-reading
returns-in_err-reading c = search (rules, book_refused c.args.book.now c.args.results.now c.in_err-reading.ensures)

pub returns : goal.returns
returns c =
    let b = c.args.book.now in
    let g = read_gives c.in_ok-reading.ensures in
    let planned : BytesPlanned (request c.in_ok-reading.reading.settings (take (signal_size * c.in_ok-reading.reading.signals) c.read.new.list)) c.args.results.now c.plan_bytes.result _ =
    c.plan_bytes.ensures in
    book_planned b c.args.results.now c.plan_bytes.result _ g.sound (rw (g.settings, g.signals, g.words) at planned)
