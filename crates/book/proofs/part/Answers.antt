-- `book::part` meets its contract: with the signal, its twenty bytes lie in the book.
-- Assumes nothing.
use Rattle.std.proofs.Common.{◌≡◌, ◌+◌, ◌-◌, Some, take, drop, ap, add_comm, arith}
use Rattle.book.specs.Part.{part_size, part_start}
use Rattle.book.proofs.PartLaws.{part_inside, part_at_has}
use Rattle.book.proofs.part.Goals as goal

pub slice_bounds-result-end : goal.slice_bounds-result-end
slice_bounds-result-end c =
    let (has, start) = part_at_has c.in-Some.ensures.given (λ e. c.in-Some.ensures.some (ap Some e)) in
    omega (arith, part_inside c.args.book.now c.args.i has, start)

pub returns-in-Some : goal.returns-in-Some
returns-in-Some c =
    let (has, start) = part_at_has c.in-Some.ensures.given (λ e. c.in-Some.ensures.some (ap Some e)) in
    let at = part_start c.args.i in
    let ptr = c.args.book.ref_ptr in
    let size : at + 20 - at ≡ part_size = omega arith in
    rw start (
    record {
      has = λ h. (λ k. take (size k) (drop at c.args.book.now), λ k. (ptr.0, add_comm at ptr.1 k));
      lacks = λ n. absurd (n has);
    })
