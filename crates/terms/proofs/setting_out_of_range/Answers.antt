-- `terms::setting_out_of_range` meets its contract: each test that fails shows its word, after those before it held.
-- Assumes nothing.
use Rattle.std.proofs.Common.{arith, refl, inl, inr}
use Rattle.terms.proofs.setting_out_of_range.Goals as goal

pub returns-then-not-between-clause-given : goal.returns-then-not-between-clause-given
returns-then-not-between-clause-given c = (6, inl (c.if-not-between.ensures, refl, refl))

pub returns-then-not-between-2-clause-given : goal.returns-then-not-between-2-clause-given
returns-then-not-between-2-clause-given c = (6, inr (c.if-not-between.ensures, inl (c.if-not-between-2.ensures, refl, refl)))

pub returns-then-not-between-3-clause-given : goal.returns-then-not-between-3-clause-given
returns-then-not-between-3-clause-given c =
    (6, inr (c.if-not-between.ensures, inr (c.if-not-between-2.ensures, inl ((λ h. c.if-not-between-3.ensures h.0), refl, refl))))

pub returns-then-s-clause-given : goal.returns-then-s-clause-given
returns-then-s-clause-given c =
    (6, inr (c.if-not-between.ensures, inr (c.if-not-between-2.ensures, inl ((λ h. omega (arith, h.1)), refl, refl))))

pub returns-then-s-gt16000-clause-given : goal.returns-then-s-gt16000-clause-given
returns-then-s-gt16000-clause-given c = (
  6,
  inr (
    c.if-not-between.ensures,
    inr (
      c.if-not-between-2.ensures,
      inr ((c.if-not-between-3.ensures, omega arith), inl ((λ h. omega arith), refl, refl)),
    ),
  ),
)

pub returns-then-not-between-4-clause-given : goal.returns-then-not-between-4-clause-given
returns-then-not-between-4-clause-given c = (
  6,
  inr (
    c.if-not-between.ensures,
    inr (
      c.if-not-between-2.ensures,
      inr ((c.if-not-between-3.ensures, omega arith), inr (omega arith, inl (c.if-not-between-4.ensures, refl, refl))),
    ),
  ),
)
