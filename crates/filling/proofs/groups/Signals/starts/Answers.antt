-- `filling::groups::Signals::starts` meets its contract: each group's slots come to those before it. Assumes nothing.
use Rattle.std.proofs.Common.{arith, [], sym, ap, ◌∙◌, refl}
use lib.ListN.{length-set, get_or-replicate}
use Rattle.laws.proofs.SumLaws.{sum_none}
use Rattle.terms.specs.Lists.{group_of, groups}
use Rattle.cycles.specs.Loads.{slots_for}
use Rattle.filling.specs.Private.{before, repetition_of, current_in}
use Rattle.filling.proofs.LoadLaws.{slots_next}
use Rattle.filling.proofs.SignalsLaws.{grouped_in}
use Rattle.filling.proofs.StepLaws.{begun_next, nothing_free}
use Rattle.filling.proofs.groups.Signals.starts.Goals as goal

pub loop-g-init : goal.loop-g-init
loop-g-init c =
    record {
      begun = λ h l. absurd (omega arith);
      nothing = λ h l.
          rw (get_or-replicate groups h c.start-groups.result (current_in [] 0) l) c.start-groups.ensures.cycles;
      needed = sym (sum_none _);
      whole = refl;
    }

pub begin-requires : goal.begin-requires
begin-requires c = c.loop-g.invariant.nothing c.loop-g.g (omega arith)

pub overflow_add-needed : goal.overflow_add-needed
overflow_add-needed c =
    let l = c.loop-g in
    let load = ap slots_for (c.loads.ensures l.g (omega arith)) in
    let more =
    slots_next (group_of c.args.self.list.now) (repetition_of c.args.self) _ l.g l.invariant.needed
    (c.slots-needed.ensures ∙ load) in
    omega (arith, more, (grouped_in c.args.self).right.few)

pub loop-g-preserved : goal.loop-g-preserved
loop-g-preserved c =
    let l = c.loop-g in
    let v = l.invariant in
    let load = ap slots_for (c.loads.ensures l.g (omega arith)) in
    let more =
    slots_next (group_of c.args.self.list.now) (repetition_of c.args.self) _ l.g l.invariant.needed
    (c.slots-needed.ensures ∙ load) in
    record {
      begun = begun_next (before c.args.self) l.groups l.g _ (omega (arith, v.whole)) (rw v.needed at c.begin.ensures) v.begun;
      nothing = nothing_free l.groups l.g _ (omega (arith, v.whole)) c.begin.ensures.cycles v.nothing;
      needed = more.0;
      whole = length-set l.groups l.g _ ∙ v.whole;
    }
