-- `book::writer::NewBook::signal_word` meets its contract: the share, then the words of the list, and zero past them.
-- Assumes nothing.
use Rattle.std.proofs.Common.{◌≡◌, ℕ, suc, ◌+◌, ◌-◌, ◌*◌, ◌<◌, ◌≤◌, List, get_or, drop, sym, ap, ◌∙◌, arith}
use Rattle.std.proofs.Common.{length-take}
use Rattle.std.proofs.Math.ListN.{get_or-eq_default}
use Rattle.book.specs.Blocks.{section_size, signal_words}
use Rattle.book.proofs.BlockLaws.{signal_listed}
use Rattle.book.proofs.writer.NewBook.signal_word.Goals as goal

-- word w is one of the list
listed : (l : List ℕ) (k w : ℕ) → 3 ≤ w → w - 3 < section_size
    → get_or l (section_size * (k - 1) + (w - 3)) 0 ≡ get_or (signal_words l k) (w - 2) 0
listed l k w low high =
    let place : suc (w - 3) ≡ w - 2 = omega arith in
    sym (signal_listed l k (w - 3) high) ∙ ap (λ (n : ℕ). get_or (signal_words l k) n 0) place

pub returns-then-d-ge-SECTION_WORDS : goal.returns-then-d-ge-SECTION_WORDS
unfolding signal_words
returns-then-d-ge-SECTION_WORDS c =
    sym
    (get_or-eq_default (signal_words c.args.self.list.now c.args.k) 0 {n = c.args.w - 2}
    (omega (arith, length-take section_size (drop (section_size * (c.args.k - 1)) c.args.self.list.now))))

pub returns : goal.returns
returns c = c.word_or_zero.ensures ∙ listed c.args.self.list.now c.args.k c.args.w (omega arith) (omega arith)
