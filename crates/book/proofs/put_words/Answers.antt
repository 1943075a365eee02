-- `book::put_words` meets its contract: none where the room is too short, else all.
-- Assumes nothing.
use Rattle.std.proofs.Common.{sym, refl, ◌∙◌, arith}
use Rattle.book.proofs.UpToLaws.{over_none}
use Rattle.book.proofs.WordLaws.{put_more, put_all, bytes_after_none, bytes_after_all}
use Rattle.book.proofs.put_words.Goals as goal

pub returns-then-room-list : goal.returns-then-room-list
returns-then-room-list c = sym (bytes_after_none c.args.list.now c.args.room.now (omega arith))

pub loop-p-init : goal.loop-p-init
loop-p-init c = over_none _ _

pub loop-p-preserved : goal.loop-p-preserved
loop-p-preserved c = put_more _ c.loop-p.p _ c.loop-p.invariant (omega arith) refl c.put_word.ensures

pub returns : goal.returns
returns c =
    put_all _ _ _ c.loop-p.p _ c.loop-p.invariant (omega arith)
    ∙ sym (bytes_after_all c.args.list.now c.args.room.now (omega arith))
