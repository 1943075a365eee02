-- What planning asks is decided: for every input each row holds or its place is found, and the repetitions with them.
-- Assumes nothing.
use mathlib.Core.Path.{◌≡◌, refl}
use mathlib.Core.Bool.{Bool, true, false}
use mathlib.Core.List.{List, [], ◌∷◌}
use mathlib.Core.Logic.Dec
use mathlib.Core.Logic.{dite}
use Prim.Native.Nat.{ℕ, ◌*◌}
use native.Mathlib.Decide.{ℕ_discrete, dec_le, map_dec}
use native.Mathlib.Omega.{arith}
use lib.ListN.{length}
use Rattle.laws.specs.Says.{Says}
use Rattle.laws.specs.Rows.{Row}
use Rattle.laws.specs.Lowest.{Between}
use Rattle.laws.proofs.DecidedLaws.{Decided, first_row, decided_row, decided_each}
use Rattle.terms.specs.declared.Settings.{Settings}
use Rattle.terms.specs.declared.Signal.{Signal}
use Rattle.terms.specs.Requests.{Request, PlanRoom}
use Rattle.terms.specs.Answers.{room_row}
use Rattle.terms.specs.Ranges.{setting_rows, SettingsInRange, setting_row, SignalInRange, Valid}
use Rattle.terms.specs.Lists.{count, count_row, signal_at, EachSignal}
use Rattle.terms.specs.Results.{result_size}
use Rattle.rule.specs.Rule.{Keeps, segment, Largest, Kept, Repetitions}
use Rattle.rule.proofs.RuleLaws.{largest_exists}
use Rattle.rule.proofs.RuleTests.{keeps_flag, keeps_says}
use Rattle.terms.proofs.RepetitionLaws.{repetition_positive}
use Rattle.terms.proofs.RangesDecided.{settings_decided, settings_or_not, signal_or_not, count_or_not}
use Rattle.filling.specs.Filled.{needed}
use Rattle.planner.specs.Rows.{bound_row, slots_row, signal_rows, planning_rows}
use Rattle.planner.proofs.PlannedLaws.{needed_same}

-- ---- repetitions

-- a flag that says a fact decides it
decided : {P : Type 0} (b : Bool) → Says P b → Dec P
decided true p = yes p
decided false n = no n

pub repetition_of : (s : Settings) (x : Signal) → Valid s x → (r : ℕ) × Largest (Keeps s x (segment s)) r
repetition_of s x v = largest_exists (Keeps s x (segment s)) (λ R r. decided (keeps_flag s x R) (keeps_says s x R v r))

-- some repetition keeps the bound, or none does
kept_or_not : (s : Settings) (x : Signal) → Valid s x → Dec (Kept s x)
kept_or_not s x v =
    let r = repetition_of s x v in
    dite (ℕ_discrete r.0 0)
    (λ z. no (λ k. omega (arith, z, r.1.largest k.0 k.1 k.2, repetition_positive k.0 k.1)))
    (λ n. let h = r.1.has n in yes (r.0, h.0, h.1))

module _ (s : Settings) (list : List ℕ) (settings : SettingsInRange s) where
  -- the repetitions of all signals, 1 where there is none
  pub repetitions_exist : EachSignal list (SignalInRange s) → (R : ℕ → ℕ) × Repetitions s list R
  repetitions_exist signals = ((λ i. (found i).0), λ i. (found i).1)
    where
      found : (i : ℕ) → (r : ℕ) × (Between 1 (count list) i → Largest (Keeps s (signal_at list i) (segment s)) r)
      found i =
          dite (Dec.and (dec_le 1 i) (dec_le i (count list)))
          (λ b.
          let r = repetition_of s (signal_at list i) (record { settings = settings; signal = signals i b }) in
          (r.0, λ c. r.1))
          (λ n. (1, λ b. absurd (n b)))

  -- 7, 8 and 9
  pub signals_decided : Decided (signal_rows s list)
  signals_decided =
      decided_each 7 (count list) (λ i. SignalInRange s (signal_at list i)) (bound_row s list ∷ slots_row s list ∷ [])
      (λ i b. signal_or_not s (signal_at list i)) (λ signals.
      decided_each 8 (count list) (λ i. Kept s (signal_at list i)) (slots_row s list ∷ [])
      (λ i b. kept_or_not s (signal_at list i) (record { settings = settings; signal = signals i b })) (λ kept.
      let (R, r) = repetitions_exist signals in
      decided_row
      (map_dec (λ h Q q. omega (arith, h, needed_same s list Q q R r)) (λ all. all R r) (dec_le _ s.slots))
      (needed list R, (R, r, refl)) (λ h. tt)))

-- 6, and what is asked where it is not given
pub after_settings : (s : Settings) (rest : List Row) → (SettingsInRange s → Decided rest) → Decided (setting_row s ∷ rest)
after_settings s rest =
    let (n, w, lowest) = first_row (setting_rows s) (λ p. p ≡ 0) (settings_decided s) (λ h. (0, refl)) in
    decided_row (settings_or_not s) (w, (n, lowest))

-- 10
pub after_room : (needs lent : ℕ) (rest : List Row) → Decided rest → Decided (room_row needs lent ∷ rest)
after_room needs lent rest d = decided_row (dec_le needs lent) (needs, refl) (λ h. d)

-- 6, 4 and 10, and then those of the signals
pub planning_decided : (x : Request) (l : PlanRoom) → Decided (planning_rows x l)
planning_decided x l =
    let s = x.settings in
    let list = x.list in
    let results = room_row (result_size * count list) (length l.results) ∷ signal_rows s list in
    let cells = room_row (64 * s.slots) (length l.cells) ∷ results in
    after_settings s (count_row list ∷ cells) (λ settings.
    decided_row (count_or_not list) (0, refl) (λ right.
    after_room (64 * s.slots) (length l.cells) results
    (after_room (result_size * count list) (length l.results) (signal_rows s list) (signals_decided s list settings))))
