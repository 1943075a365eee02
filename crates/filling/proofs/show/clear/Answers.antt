-- `filling::show::clear` meets its contract: the cells of the slots are 0, and the later ones stay. Assumes nothing.
use Rattle.std.proofs.Common.{List, ℕ, ◌*◌, ◌++◌, ◌∙◌, ap, replicate, drop}
use lib.Seq.{length-take-le}
use Rattle.filling.proofs.ShowLaws.{cleared}
use Rattle.filling.proofs.show.clear.Goals as goal

pub returns : goal.returns
returns c =
    let cells = c.args.cells.now in
    let end = 64 * c.args.slots in
    let zeros =
    c.fill.ensures.after (λ y e. e) ∙ ap (λ (n : ℕ). replicate n 0) (length-take-le end cells c.requires) in
    cleared c.args.slots cells _ c.requires (ap (λ (front : List ℕ). front ++ drop end cells) zeros)
