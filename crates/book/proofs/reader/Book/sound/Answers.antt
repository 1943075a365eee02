-- `book::reader::Book::sound` meets its contract: what each test comes to is that of its row.
-- Assumes nothing.
use Rattle.std.proofs.Common.{◌≡◌, refl, inl, inr, rules}
use Rattle.std.proofs.lemmas.Result.{err_from_is_err_and}
use Rattle.terms.specs.declared.Refusal.TheVariants.{Check, Kind, Count, Zero}
use Rattle.book.specs.Reading.{LengthRight, CheckRight, KindRight, CountRight, ZerosRight}
use Rattle.book.proofs.SoundLaws.{passed, refused}
use Rattle.book.proofs.reader.Book.sound.Goals as goal

pub returns-in_err-map_err-clause-refused : goal.returns-in_err-map_err-clause-refused
returns-in_err-map_err-clause-refused c =
    let same : c.in_ok-book.book.bytes.now ≡ c.args.bytes.now = search rules in
    let size : LengthRight c.args.bytes.now = rw same at c.in_ok-book.book.whole in
    let (k, fails, first, made) = refused same CheckRight (λ x b t. search rules) _
    c.each.ensures c.map_err.ensures.cases c.in_err-map_err.was in
    let is : c.in_err-map_err.field-0.0 ≡ Check k = search rules in
    let end = c.from_residual-in_err-map_err in
    let exit = err_from_is_err_and end.result end.ensures.1 in
    rw (exit.1, exit.2, is) (inr (size, inl (fails, refl, first)))

pub returns-in_err-map_err-2-clause-refused : goal.returns-in_err-map_err-2-clause-refused
returns-in_err-map_err-2-clause-refused c =
    let same : c.in_ok-book.book.bytes.now ≡ c.args.bytes.now = search rules in
    let size : LengthRight c.args.bytes.now = rw same at c.in_ok-book.book.whole in
    let checks = passed same CheckRight (λ x b t. search rules) _
    c.each.ensures c.map_err.ensures.cases c.in_ok-map_err.was in
    let (k, fails, first, made) = refused same KindRight (λ x b t. search rules) _
    c.each-2.ensures c.map_err-2.ensures.cases c.in_err-map_err-2.was in
    let is : c.in_err-map_err-2.field-0.0 ≡ Kind k = search rules in
    let end = c.from_residual-in_err-map_err-2 in
    let exit = err_from_is_err_and end.result end.ensures.1 in
    rw (exit.1, exit.2, is) (inr (size, inr (checks, inl (fails, refl, first))))

pub returns-in_err-map_err-3-clause-refused : goal.returns-in_err-map_err-3-clause-refused
returns-in_err-map_err-3-clause-refused c =
    let same : c.in_ok-book.book.bytes.now ≡ c.args.bytes.now = search rules in
    let size : LengthRight c.args.bytes.now = rw same at c.in_ok-book.book.whole in
    let checks = passed same CheckRight (λ x b t. search rules) _
    c.each.ensures c.map_err.ensures.cases c.in_ok-map_err.was in
    let kinds = passed same KindRight (λ x b t. search rules) _
    c.each-2.ensures c.map_err-2.ensures.cases c.in_ok-map_err-2.was in
    let (k, fails, first, made) = refused same CountRight (λ x b t. search rules) _
    c.each-3.ensures c.map_err-3.ensures.cases c.in_err-map_err-3.was in
    let is : c.in_err-map_err-3.field-0.0 ≡ Count = search rules in
    let end = c.from_residual-in_err-map_err-3 in
    let exit = err_from_is_err_and end.result end.ensures.1 in
    rw (exit.1, exit.2, is) (inr (size, inr (checks, inr (kinds, inl (fails, refl, refl)))))

pub returns-in_err-map_err-4-clause-refused : goal.returns-in_err-map_err-4-clause-refused
returns-in_err-map_err-4-clause-refused c =
    let same : c.in_ok-book.book.bytes.now ≡ c.args.bytes.now = search rules in
    let size : LengthRight c.args.bytes.now = rw same at c.in_ok-book.book.whole in
    let checks = passed same CheckRight (λ x b t. search rules) _
    c.each.ensures c.map_err.ensures.cases c.in_ok-map_err.was in
    let kinds = passed same KindRight (λ x b t. search rules) _
    c.each-2.ensures c.map_err-2.ensures.cases c.in_ok-map_err-2.was in
    let counts = passed same CountRight (λ x b t. search rules) _
    c.each-3.ensures c.map_err-3.ensures.cases c.in_ok-map_err-3.was in
    let (k, fails, first, made) = refused same ZerosRight (λ x b t. search rules) _
    c.each-4.ensures c.map_err-4.ensures.cases c.in_err-map_err-4.was in
    let is : c.in_err-map_err-4.field-0.0 ≡ Zero k = search rules in
    let end = c.from_residual-in_err-map_err-4 in
    let exit = err_from_is_err_and end.result end.ensures.1 in
    rw (exit.1, exit.2, is) (inr (size, inr (checks, inr (kinds, inr (counts, inl (fails, refl, first))))))

pub returns-clause-sound : goal.returns-clause-sound
returns-clause-sound c =
    let same : c.in_ok-book.book.bytes.now ≡ c.args.bytes.now = search rules in
    let size : LengthRight c.args.bytes.now = rw same at c.in_ok-book.book.whole in
    let checks = passed same CheckRight (λ x b t. search rules) _
    c.each.ensures c.map_err.ensures.cases c.in_ok-map_err.was in
    let kinds = passed same KindRight (λ x b t. search rules) _
    c.each-2.ensures c.map_err-2.ensures.cases c.in_ok-map_err-2.was in
    let counts = passed same CountRight (λ x b t. search rules) _
    c.each-3.ensures c.map_err-3.ensures.cases c.in_ok-map_err-3.was in
    let zeros = passed same ZerosRight (λ x b t. search rules) _
    c.each-4.ensures c.map_err-4.ensures.cases c.in_ok-map_err-4.was in
    (same, (size, (checks, (kinds, (counts, (zeros, tt))))))
