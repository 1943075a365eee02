-- `rule::keeps` meets its contract: base by base. Assumes nothing.
use Rattle.std.proofs.Common.{refl, rules}
use Rattle.laws.proofs.SaysLaws.{says_same}
use Rattle.rule.specs.Places.{KeptAt}
use Rattle.rule.proofs.AllLaws.{all_says}
use Rattle.rule.proofs.RuleLaws.{each_keeps, keeps_each}
use Rattle.rule.proofs.keeps.Goals as goal

pub returns : goal.returns
returns c =
    let s = c.args.frames.settings in
    let x = c.args.frames.signal in
    let r = c.args.frames.repetition in
    says_same c.all.result (each_keeps s x r) (keeps_each s x r)
    (all_says r (KeptAt s x r) (λ b q h call. (search rules, search rules)) refl _ c.all.result c.all.ensures.ran)
