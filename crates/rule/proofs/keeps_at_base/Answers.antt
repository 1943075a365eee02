-- `rule::keeps_at_base` meets its contract: the age found in each slot decides whether the bound is kept there.
-- Assumes nothing.
use Rattle.std.proofs.Common.{ℕ, ◌≡◌, ◌+◌, ◌↔◌, Option, IsSome, MatchOption, false, unwrap_or, nat_le, rules}
use Rattle.laws.proofs.SaysLaws.{says_same}
use Rattle.age.specs.AgeGiven.{frame_in, InRange, AgeGiven}
use Rattle.age.proofs.FramesLaws.{frame_there}
use Rattle.rule.specs.Places.{KeptIn}
use Rattle.rule.proofs.AllLaws.{all_says}
use Rattle.rule.proofs.RuleLaws.{found_says}
use Rattle.rule.proofs.keeps_at_base.Goals as goal

pub returns : goal.returns
returns c =
    let p = c.args.frames in
    let s = p.settings in
    let x = p.signal in
    let f = λ (k : ℕ). frame_in (k + 1) p.repetition c.args.base in
    says_same c.all.result (λ all k l. (all k l).1)
    (λ kept k l. (frame_there p (k + 1) c.args.base (search rules) c.requires, kept k l))
    (all_says s.slots (λ k. InRange s x (f k) × KeptIn s x (f k))
    (λ k q h call. let found : (o : Option ℕ) × AgeGiven s x (f k) (unwrap_or o 0) × (IsSome o ↔ InRange s x (f k))
    × MatchOption o (q ≡ false) (λ v. q ≡ nat_le v x.bound) = search rules in
    (search rules, found_says s x _ found.0 q found.1 found.2 found.3)) (search rules) _ c.all.result c.all.ensures.ran)
