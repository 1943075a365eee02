-- Laws of the settings' ranges: the lowest word out of range is one, and what a test of it learns.
-- Assumes nothing.
use mathlib.Core.Path.{◌≡◌}
use mathlib.Core.List.{List, [], ◌∷◌}
use mathlib.Core.Logic.{inl, inr}
use Prim.Native.Nat.{ℕ, ◌≤◌}
use native.Mathlib.Omega.{arith}
use lib.Dec.{lit≤}
use Rattle.laws.specs.Rows.{FirstRow, Hold}
use Rattle.laws.proofs.RowLaws.{Single, holds_zero, one_outcome}
use Rattle.terms.specs.declared.Settings.{Settings}
use Rattle.terms.specs.Ranges.{SettingEntry, setting_table, table_rows, setting_rows, SettingsInRange, LowestOutOfRange}

-- no setting stands in word 0
abbrev Named : List SettingEntry → Type 0
Named [] = Unit {0}
Named (t ∷ ts) = (1 ≤ t.word) × Named ts

named : (s : Settings) → Named (setting_table s)
named s = (lit≤ tt, (lit≤ tt, (lit≤ tt, (lit≤ tt, (lit≤ tt, tt)))))

pub table_single : (ts : List SettingEntry) → Single (table_rows ts)
table_single [] = tt
table_single (t ∷ ts) = ((λ p q d e. omega arith), table_single ts)

zero_granted : (n w : ℕ) (ts : List SettingEntry) → Named ts → FirstRow (table_rows ts) (λ p. p ≡ 0) n w → w ≡ 0
    → Hold (table_rows ts)
zero_granted n w [] h f e = tt
zero_granted n w (t ∷ ts) h (inl f) e = absurd (omega (arith, h.0, f.2))
zero_granted n w (t ∷ ts) h (inr f) e = (f.0, zero_granted n w ts h.1 f.1 e)

module _ (s : Settings) (w : ℕ) (l : LowestOutOfRange s w) where
  pub settings_granted : w ≡ 0 → SettingsInRange s
  settings_granted e = zero_granted l.0 w (setting_table s) (named s) l.1 e

  pub settings_refused : (w ≡ 0 → ⊥) → SettingsInRange s → ⊥
  settings_refused n h = n (holds_zero (λ p. p ≡ 0) l.0 w (setting_rows s) h l.1).1

pub lowest_word_unique : (s : Settings) (v w : ℕ) → LowestOutOfRange s v → LowestOutOfRange s w → v ≡ w
lowest_word_unique s v w l k =
    (one_outcome (setting_rows s) (λ p. p ≡ 0) (λ p q d e. omega arith) (table_single (setting_table s)) l.0 k.0 v w l.1 k.1).1
