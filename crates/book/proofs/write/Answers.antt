-- `book::write` meets its contract: past the refusals 4 and 10 the room holds the book.
-- Assumes nothing.
use Rattle.std.proofs.Common.{◌≡◌, ◌*◌, rules, arith}
use Rattle.terms.specs.Lists.{count}
use Rattle.book.specs.Blocks.{blocks_for, book_of}
use Rattle.book.proofs.WriteLaws.{write_done}
use Rattle.book.proofs.write.Goals as goal

pub returns : goal.returns
unfolding book_of
returns c =
    let book = c.in_ok-book.book in
    let settings : book.settings ≡ c.args.s = search rules in
    let list : book.list.now ≡ c.args.list.now = search rules in
    let n = blocks_for (count book.list.now) in
    let end : 4 * (128 * n) ≡ 512 * n = omega arith in
    rw (settings, list) at (write_done book.settings book.list.now c.args.room.now book.in_range _
    c.blocks-blocks.ensures (omega arith) (rw end at c.fill.ensures))
