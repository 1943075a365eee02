-- Reading what was written gives the same values; writing what was read gives the same bytes; two different sound books
-- never read alike. For all settings and lists of words below 2 ^ 32 and all books of bytes below 256.
-- Assumes nothing.
use Rattle.std.proofs.Common.{◌≡◌, ℕ, ◌*◌, ◌^◌, ◌≤◌, List, [], ◌++◌, length, take, drop, sym, ap, ◌∙◌, arith, lit<}
use Rattle.std.proofs.Common.{lit≤}
use Rattle.laws.proofs.RowLaws.{holds_zero}
use Rattle.terms.specs.declared.Settings.{Settings}
use Rattle.std.specs.Prelude.{Result, Ok}
use Rattle.terms.specs.declared.Refusal.{Refusal}
use Rattle.terms.specs.Lists.{signal_size, count, CountInRange}
use Rattle.terms.specs.Answers.{Answer, number_of, place_of}
use Rattle.book.specs.declared.Reading.{Reading}
use Rattle.book.specs.Words.{AllBelow}
use Rattle.book.specs.Blocks.{AreWords, blocks_for, book_of, writing_rows}
use Rattle.book.specs.Reading.{blocks_in, signals_of, list_in}
use Rattle.book.specs.Outcomes.{ReadOutcome, WriteOutcome}
use Rattle.book.proofs.SoundLaws.{sound_length, sound_count}
use Rattle.book.proofs.WrittenLaws.{written_count, written_sound, written_back, written_list}
use Rattle.book.proofs.AcceptedLaws.{list_count, list_in_range, sound_written}
use Rattle.book.proofs.ReadLaws.{read_gives, sound_read}
use Rattle.book.proofs.WriteLaws.{write_gives}

-- reading what was written: done, with the same settings and the same words, and what lies behind stays
pub write_then_read : {s : Settings} {l room exit lent back : List ℕ} {a : Answer} {r : Result Reading Refusal}
    → AreWords s → AllBelow (2 ^ 32) l → WriteOutcome s l room a exit → number_of a ≡ 0
    → length l ≤ length lent → ReadOutcome (take (512 * place_of a) exit) lent r back
    → (r ≡ Ok (record { settings = s; signals = count l })) × (back ≡ l ++ drop (length l) lent)
write_then_read {s} {l} {lent = lent} settings words write z enough outcome =
    let (right, book) = write_gives write z in
    let read = rw book at outcome in
    let m = written_count s l settings words right in
    let all : signal_size * signals_of (book_of s l) ≡ length l = omega (arith, right.whole) in
    let done = sound_read read (written_sound s l settings words right) (omega arith) in
    let list = (rw done at read.done).1 in (
      done ∙ (λ i. Ok (record { settings = written_back s l settings words right i; signals = m i })),
      list ∙ (λ i. written_list s l settings words right i ++ drop (all i) lent),
    )

-- writing what was read: done, byte for byte the book, and what lies behind stays
pub read_then_write : {b lent back room exit : List ℕ} {x : Reading} {a : Answer}
    → AllBelow 256 b → ReadOutcome b lent (Ok x) back
    → length b ≤ length room → WriteOutcome x.settings (take (signal_size * x.signals) back) room a exit
    → (number_of a ≡ 0) × (place_of a ≡ blocks_in b) × (exit ≡ b ++ drop (length b) room)
read_then_write {b} {room = room} bytes read enough outcome =
    let g = read_gives read in
    let write = rw (g.settings, g.signals, g.words) at outcome in
    let blocks = ap blocks_for (list_count b) ∙ sym (sound_count b g.sound).1 in
    let size : 512 * blocks_for (count (list_in b)) ≡ length b = omega (arith, (sound_length b g.sound).whole) in
    let (done, place) = holds_zero (λ p. p ≡ blocks_for (count (list_in b))) _ _
    (writing_rows (list_in b) (length room)) (list_in_range b g.sound, (omega arith, tt)) write.answer in
    (done, place ∙ blocks, write.done done ∙ (λ i. sound_written b g.sound bytes i ++ drop (size i) room))

-- two different sound books never read alike: accepted with the same outcome, they are the same book
pub alike_same : {b b' lent back : List ℕ} {x : Reading} → AllBelow 256 b → AllBelow 256 b'
    → ReadOutcome b lent (Ok x) back → ReadOutcome b' lent (Ok x) back → b ≡ b'
alike_same {b} {b'} bytes bytes' read read' =
    let g = read_gives read in
    let h = read_gives read' in
    cc (sound_written b g.sound bytes, sound_written b' h.sound bytes')

-- a reader that refuses all books is excluded: that of an empty list is accepted, with no room at all
pub not_all_refused : {s : Settings} {back : List ℕ} {r : Result Reading Refusal} → AreWords s
    → ReadOutcome (book_of s []) [] r back → r ≡ Ok (record { settings = s; signals = 0 })
not_all_refused {s} settings read =
    let none : AllBelow (2 ^ 32) [] = λ i. lit< tt in
    let right : CountInRange [] = record { whole = omega arith; few = lit≤ tt } in
    let m : signals_of (book_of s []) ≡ 0 = written_count s [] settings none right in
    sound_read read (written_sound s [] settings none right) (omega arith)
    ∙ (λ i. Ok (record { settings = written_back s [] settings none right i; signals = m i }))
