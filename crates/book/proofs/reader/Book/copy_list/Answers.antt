-- `book::reader::Book::copy_list` meets its contract: each turn puts the book's next word behind those before.
-- Assumes nothing.
use Rattle.std.proofs.Common.{refl, arith}
use Rattle.book.specs.Reading.{list_word}
use Rattle.book.proofs.UpToLaws.{over_none, over_one}
use Rattle.book.proofs.reader.Book.copy_list.Goals as goal

pub loop-i-init : goal.loop-i-init
loop-i-init c = over_none _ _

pub loop-i-preserved : goal.loop-i-preserved
unfolding list_word
loop-i-preserved c =
    let word = rw (c.block.ensures.0, c.block.ensures.1) at c.word.ensures in
    over_one c.loop-i.i _ _ c.loop-i.invariant (omega arith) word refl
