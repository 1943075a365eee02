-- `cycles::Slot::all_free` meets its contract: the frame's cycles within the free ones are the frame's cycles.
-- Assumes nothing.
use Rattle.std.proofs.Common.{rules, bit_and, nat_eq}
use borrow.Author.Tests.{eqb-true, eqb-false}
use Rattle.laws.proofs.SaysLaws.{says}
use Rattle.cycles.proofs.OperationLaws.{all_free, mask_free}
use Rattle.cycles.proofs.Slot.all_free.Goals as goal

pub returns : goal.returns
returns c =
    let s = c.args.self in
    let m = c.cycles_of-cycles.result in
    let mask = c.cycles_of-cycles.ensures in
    let both = bit_and s.free m in
    says (nat_eq both m) (λ e. all_free s _ _ m mask (eqb-true both m e))
    (λ e h. eqb-false both m e (mask_free s _ _ m mask (search rules) h))
