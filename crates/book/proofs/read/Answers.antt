-- `book::read` meets its contract: a sound book has at most 600 signals in its own blocks, so its words fit where there
-- is room.
-- Assumes nothing.
use Rattle.std.proofs.Common.{◌≡◌, ◌*◌, ◌++◌, length, take, drop, ap, ◌∙◌, arith, length-take}
use Rattle.terms.specs.Lists.{signal_size}
use Rattle.book.specs.Words.{up_to}
use Rattle.book.specs.Reading.{signals_of, settings_in, list_word, list_in}
use Rattle.book.proofs.SoundLaws.{sound_count}
use Rattle.book.proofs.ReadLaws.{read_done}
use Rattle.book.proofs.read.Goals as goal

pub overflow_cast-result : goal.overflow_cast-result
overflow_cast-result c =
    let (same, sound) = c.in_ok-book.ensures.sound in
    let signals = c.signals-signals.ensures ∙ ap signals_of same in
    omega (arith, (sound_count c.args.book.now sound).0, signals)

pub returns : goal.returns
unfolding list_in
returns c =
    let lent = c.args.list.now in
    let (same, sound) = c.in_ok-book.ensures.sound in
    let signals = c.signals-signals.ensures ∙ ap signals_of same in
    let n = signal_size * c.signals-signals.result in
    let words : length (take n lent) ≡ signal_size * signals_of c.args.book.now =
    omega (arith, length-take n lent, signals) in
    let list = ap (λ l. l ++ drop n lent) c.copy_list.ensures
    ∙ λ i. up_to (list_word (same i)) (words i) ++ drop (signal_size * signals i) lent in
    read_done sound (omega (arith, signals)) signals (c.settings.ensures ∙ ap settings_in same) list
