-- `book::writer::NewBook::put_block` meets its contract: each turn puts the block's next word and takes it into
-- the check, which is put last.
-- Assumes nothing.
use Rattle.std.proofs.Common.{◌≡◌, [], drop, sym, refl, ◌∙◌, append-nil, arith}
use Rattle.std.proofs.lemmas.List.{drop_all}
use Rattle.laws.proofs.SumLaws.{sum_none}
use Rattle.book.specs.Words.{check_of}
use Rattle.book.specs.Blocks.{body_word, block_word}
use Rattle.book.proofs.UpToLaws.{over_none, sum_kept}
use Rattle.book.proofs.WordLaws.{put_more, put_all}
use Rattle.book.proofs.BlockLaws.{block_body, block_check}
use Rattle.book.proofs.writer.NewBook.put_block.Goals as goal

pub loop-w-init : goal.loop-w-init
loop-w-init c = (over_none _ _, omega (arith, sum_none (body_word c.args.self.settings c.args.self.list.now c.args.k)))

pub loop-w-preserved : goal.loop-w-preserved
loop-w-preserved c =
    let s = c.args.self.settings in
    let list = c.args.self.list.now in
    let k = c.args.k in
    let w = c.loop-w.w in
    let x = c.body_word-x in (
      put_more (block_word s list k) w x.result c.loop-w.invariant.0 (omega arith)
          (x.ensures ∙ sym (block_body s list k w (omega arith))) c.put_word.ensures,
      sum_kept (body_word s list k) w c.loop-w.check x.result c.loop-w.invariant.1 x.ensures,
    )

pub returns : goal.returns
unfolding check_of
returns c =
    let book = c.args.self in
    let word = block_word book.settings book.list.now c.args.k in
    let block = c.args.block.now in
    let end : c.loop-w.w ≡ 127 = omega arith in
    let check = rw end at c.loop-w.invariant.1 ∙ sym (block_check book.settings book.list.now c.args.k) in
    let put = put_more word 127 _ (rw end at c.loop-w.invariant.0) (omega arith) check c.put_word-2.ensures in
    let none : drop 512 block ≡ [] = drop_all 512 block (omega arith) in
    put_all word block _ 128 128 put refl ∙ rw (none, append-nil) refl
