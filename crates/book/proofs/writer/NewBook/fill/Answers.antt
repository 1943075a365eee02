-- `book::writer::NewBook::fill` meets its contract: each turn puts the book's next block.
-- Assumes nothing.
use Rattle.std.proofs.Common.{◌≡◌, ◌+◌, ◌-◌, ◌*◌, ◌/◌, ◌%◌, arith}
use Rattle.book.specs.Words.{byte_of, byte_in, bytes_of}
use Rattle.book.specs.Blocks.{block_word, book_word}
use Rattle.book.proofs.UpToLaws.{over_none, over_more}
use Rattle.book.proofs.WordLaws.{put_all}
use Rattle.book.proofs.writer.NewBook.fill.Goals as goal

pub loop-k-init : goal.loop-k-init
loop-k-init c = over_none _ _

pub loop-k-preserved : goal.loop-k-preserved
unfolding bytes_of byte_in book_word
loop-k-preserved c =
    let s = c.args.self.settings in
    let list = c.args.self.list.now in
    let k = c.loop-k.k in
    let start : 4 * (128 * k) ≡ 512 * k = omega arith in
    let end : 4 * (128 * (k + 1)) ≡ 512 * k + 512 = omega arith in
    let length : 512 * k + 512 - 512 * k ≡ 512 = omega arith in
    let put = over_more {f = byte_in (book_word s list)} {g = byte_in (block_word s list k)} (512 * k) 512 _
    (rw start at c.loop-k.invariant) length (omega arith) c.put_block.ensures
    (λ i h.
    let block : k ≡ (512 * k + i) / 4 / 128 = omega arith in
    let word : i / 4 ≡ (512 * k + i) / 4 % 128 = omega arith in
    let byte : i % 4 ≡ (512 * k + i) % 4 = omega arith in
    λ j. byte_of (block_word s list (block j) (word j)) (byte j)) in
    rw end put

pub returns : goal.returns
returns c = put_all _ _ _ (128 * c.loop-k.k) _ c.loop-k.invariant (omega (arith, c.blocks-k-end.ensures))
