-- The starred cases hold: one test that antt computes over the whole list, and the law that turns it into the claim.
-- Assumes nothing.
use mathlib.Core.List.{List, [], ◌∷◌}
use Rattle.laws.proofs.FactTests.{Test, passing, join, shown}
use Rattle.laws.proofs.DivisorLaws.{euclid}
use Rattle.laws.specs.Sums.{sum, same}
use Rattle.filling.specs.Cycles.{first_free, seek}
use Rattle.filling.specs.Ordered.{ordered, insert}
use Rattle.filling.specs.Runs.{goes_to}
use Rattle.filling.specs.Filled.{frames_from, fill_from}
use Rattle.cases.specs.Cases.{Case, CaseHolds, EachCase, starred, Claim}
use Rattle.cases.specs.Cases.Case.{gets, shows, fills}
use Rattle.age.proofs.RangeTests.{valid_test}
use Rattle.age.proofs.AgeTests.{age_test}
use Rattle.cases.proofs.FillingTests.{fills_test}
use Rattle.rule.proofs.RuleTests.{gets_test, keeps_at, keeps_flag, span_divisor}

abbrev test : (c : Case) → Test (CaseHolds c)
test (gets s x r) = shown (λ h. (h.0, h.1 h.0)) (join (valid_test s x) (gets_test s x r))
test (shows s x f a) = age_test s x f a
test (fills s list repetitions places slots) = fills_test s list repetitions places slots

abbrev tests : (cs : List Case) → Test (EachCase cs)
tests [] = passing tt
tests (c ∷ cs) = join (test c) (tests cs)

pub starred_hold : Claim
unfolding Claim euclid keeps_at keeps_flag span_divisor frames_from fill_from ordered insert sum same goes_to first_free seek
starred_hold = (tests starred).1 tt
