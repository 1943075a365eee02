-- `book::reader::Book::settings` meets its contract: the five fields are words 2 to 6 of block 0.
-- Assumes nothing.
use Rattle.std.proofs.Common.{refl}
use Rattle.book.specs.Reading.{settings_in}
use Rattle.book.proofs.reader.Book.settings.Goals as goal

pub returns : goal.returns
unfolding settings_in
returns c =
    rw (c.word.ensures, c.word-2.ensures, c.word-3.ensures, c.word-4.ensures, c.word-5.ensures)
    (rw (c.block-block.ensures.0, c.block-block.ensures.1) refl)
