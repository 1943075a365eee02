-- `rule::repetition` meets its contract: the first of the seven that keeps is the largest. Assumes nothing.
use Rattle.std.proofs.Common.{◌≡◌, ◌↔◌, Option, IfSome, IsSome, MatchOption, false, rules}
use Rattle.std.proofs.lemmas.Iterator.{YieldsList-from_slice}
use Rattle.std.proofs.lemmas.Iterator.Consumers.{YieldsList-from_copied}
use Rattle.laws.specs.Says.{Says}
use Rattle.terms.specs.Ranges.{Valid, Repetition}
use Rattle.age.specs.declared.Frames.{Frames}
use Rattle.rule.specs.Rule.{Keeps, segment}
use Rattle.rule.proofs.AllLaws.{first_says}
use Rattle.rule.proofs.RuleLaws.{seven, KeptBy, kept_says, first_given}
use Rattle.rule.proofs.repetition.Goals as goal

pub returns-clause-given : goal.returns-clause-given
returns-clause-given c =
    let s = c.args.s in
    let x = c.args.x in
    first_given s x c.find.result
    (first_says (KeptBy s x) (λ r b q h. let found : (o : Option Frames) × IfSome o (λ p. (p.settings ≡ s) × (p.signal ≡ x) × (p.repetition ≡ r.now))
    × (IsSome o ↔ Valid s x × Repetition r.now)
    × MatchOption o (b ≡ false) (λ p. Says (Keeps p.settings p.signal (segment p.settings) p.repetition) b) = search rules in
    (search rules, kept_says s x r.now found.0 b found.1 found.2 found.3))
    (YieldsList-from_copied (YieldsList-from_slice seven (search rules))) c.find.result c.find.ensures.ran)
