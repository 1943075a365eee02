-- `book::reader::Book::each` meets its contract: a block passed is one of which the test says true.
-- Assumes nothing.
use Rattle.std.proofs.Common.{below_more}
use Rattle.book.proofs.reader.Book.each.Goals as goal

pub loop-k-preserved : goal.loop-k-preserved
loop-k-preserved g c =
    let (book, number) = c.block.ensures in
    below_more _ _ c.loop-k.invariant (c.block.result, book, number, c.if-not-right.ensures)
