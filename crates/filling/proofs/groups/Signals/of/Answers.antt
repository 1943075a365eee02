-- `filling::groups::Signals::of` meets its contract: it stops at a signal with no group or no repetition. Assumes nothing.
use Rattle.std.proofs.Common.{arith, ℕ, ◌+◌, ◌-◌, ◌≡◌, below_more, subst, sym}
use lib.Seq.{length-take-le}
use Rattle.laws.specs.Lowest.{EachTo}
use Rattle.terms.specs.Ranges.{Repetition}
use Rattle.terms.specs.Lists.{count}
use Rattle.filling.proofs.Gathering.{repetition_cut}
use Rattle.filling.proofs.groups.Signals.of.Invariants.{Has}
use Rattle.filling.proofs.groups.Signals.of.Goals as goal
use Rattle.filling.proofs.groups.Signals.of.Goals.{then-g-ge-GROUPS-via-then-g-ge-GROUPS, then-g-ge-GROUPS-via-else-g-ge-GROUPS+then-not-is_repetition}

pub returns-then-g-ge-GROUPS : goal.returns-then-g-ge-GROUPS
returns-then-g-ge-GROUPS c g =
    let i = c.loop-i.i in
    let v = c.loop-i.invariant in
    let word = repetition_cut c.args.repetitions.now c.count-m.result i v.given c.loop-i-test.true in
    let group = g.group (1 + i) (omega (arith, v.counted, word.0)) in
    let seven = rw word.1 at (g.seven (1 + i) (omega (arith, v.counted, word.0))) in
    elim c.then-g-ge-GROUPS.branch [
      | then-g-ge-GROUPS-via-then-g-ge-GROUPS w ↦ omega (arith, group, c.group_of-g.ensures, w.if-g-ge-GROUPS.true)
      | then-g-ge-GROUPS-via-else-g-ge-GROUPS+then-not-is_repetition w ↦ w.if-not-is_repetition.ensures seven
    ]

pub loop-i-preserved : goal.loop-i-preserved
loop-i-preserved c =
    let i = c.loop-i.i in
    let v = c.loop-i.invariant in
    let word = repetition_cut c.args.repetitions.now c.count-m.result i v.given c.loop-i-test.true in
    let seven = subst Repetition (sym word.1) c.if-not-is_repetition.ensures in
    record {
      passed =
          below_more (λ (k : ℕ). Has c.args.list.now c.args.repetitions.now (1 + k)) i v.passed
          (omega (arith, c.group_of-g.ensures), seven);
      counted = v.counted;
      right = v.right;
      given = v.given;
    }

pub invariant_of-result : goal.invariant_of-result
invariant_of-result c =
    let v = c.loop-i.invariant in
    let long = length-take-le c.count-m.result c.args.repetitions.now v.given in
    let each : EachTo (count c.args.list.now) (Has c.args.list.now c.args.repetitions.now) = λ i b.
    let place : 1 + (i - 1) ≡ i = omega (arith, b) in
    subst (Has c.args.list.now c.args.repetitions.now) place (v.passed (i - 1) (omega (arith, b, v.counted, long))) in
    record {
      grouped = ∣ record {
        right = v.right;
        given = omega (arith, v.counted, v.given);
        group = λ i b. (each i b).0;
        seven = λ i b. (each i b).1;
      } ∣₁;
    }
