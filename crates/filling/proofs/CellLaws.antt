-- The cells that a run has gone over: those of the slots left, and the taken ones of the current slot.
-- Assumes nothing.
use mathlib.Core.Path.{◌≡◌, refl, sym}
use mathlib.Core.Logic.{◌⊎◌, inl, inr, ⊎_elim, dite}
use Prim.Native.Nat.{ℕ, ◌%◌, ◌≤◌, ◌<◌, zero-le}
use native.Mathlib.Nat.{eq-or-lt_of_le}
use native.Mathlib.Decide.{ℕ_discrete}
use native.Mathlib.Omega.{arith}
use Rattle.laws.proofs.SumLaws.{same_cases, same_equal}
use Rattle.cycles.specs.Frames.{Sends}
use Rattle.cycles.proofs.FrameLaws.{named_remainder, remainder_named}
use Rattle.filling.specs.declared.UnitFrame.{UnitFrame}
use Rattle.filling.specs.Cycles.{first_free}
use Rattle.filling.specs.Runs.{Placed, State, goes_to, placed, after}
use Rattle.filling.proofs.CycleLaws.{is_first_free}
use Rattle.filling.proofs.RunLaws.{GoesTo, goes_case, Fits}
use Rattle.filling.proofs.RunLaws.GoesTo.{stay, turn}

-- cycle c of slot k: in a slot left, or taken in the current one
abbrev pub Gone : State → (k c : ℕ) → Type 0
Gone s k c = (k < s.begun) ⊎ ((k ≡ s.begun) × (s.cycles c ≡ 0 → ⊥))

-- cycle c of slot k stands before a place in the table
abbrev pub Past : Placed → (k c : ℕ) → Type 0
Past p k c = (k < p.frame.slot) ⊎ ((k ≡ p.frame.slot) × (c < p.frame.base))

module _ (k c : ℕ) where
  gone_there : {s r : State} → GoesTo s r → Gone s k c → Gone r k c
  gone_there (stay h) g = g
  gone_there (turn h) (inl l) = inl (omega arith)
  gone_there (turn h) (inr e) = inl (omega (arith, e.0))

  -- "to the current slot while that has a free cycle": the slot that is left is full
  there_gone : {s r : State} → GoesTo s r → c < 64 → Gone r k c → Gone s k c
  there_gone (stay h) l g = g
  there_gone {s} (turn h) l (inl b) =
      let below : k ≤ s.begun = omega arith in
      ⊎_elim (λ e. inr (e, (is_first_free s.cycles).before c zero-le (omega arith))) inl (eq-or-lt_of_le below)
  there_gone (turn h) l (inr e) = absurd (e.1 refl)

  module _ (s : State) (f : UnitFrame) where
    -- what is gone stays so, and what a frame sends is gone after it
    pub gone_stays : Gone s k c → Gone (after s f) k c
    gone_stays g = ⊎_elim inl (λ e. inr (e.0, λ z. e.1 (omega arith))) (gone_there (goes_case s) g)

    pub sent_gone : Sends (placed s f).frame k c → Gone (after s f) k c
    sent_gone (e, n) =
        let taken = same_equal (first_free (goes_to s).cycles) (c % f.repetition) (sym (named_remainder n)) in
        inr (sym e, λ z. omega (arith, z, taken))

    -- "with the first free cycle as its base"
    pub passed_gone : c < 64 → Past (placed s f) k c → Gone s k c
    passed_gone l b =
        there_gone (goes_case s) l
        (⊎_elim (λ h. inl h) (λ e. inr (e.0, (is_first_free (goes_to s).cycles).before c zero-le e.1)) b)

    module _ {first load : ℕ} (fits : Fits first load s f) where
      -- a frame sends no cell that is gone
      pub gone_unsent : Gone s k c → Sends (placed s f).frame k c → ⊥
      gone_unsent g (e, n) =
          ⊎_elim (λ l. omega (arith, l, e)) (λ q. q.1 (fits.free c (named_remainder n))) (gone_there (goes_case s) g)

      -- what is gone after a frame was so before, or the frame sends it
      pub gone_or_sent : c < 64 → Gone (after s f) k c → Gone s k c ⊎ Sends (placed s f).frame k c
      gone_or_sent l (inl b) = inl (there_gone (goes_case s) l (inl b))
      gone_or_sent l (inr e) =
          dite (ℕ_discrete ((goes_to s).cycles c) 0)
          (λ z.
          let r = fits.inside.frame in
          ⊎_elim (λ q. inr (sym e.0, remainder_named r.repetition r.base (sym q.0)))
          (λ q. absurd (e.1 (omega (arith, z, q.1)))) (same_cases (first_free (goes_to s).cycles) (c % f.repetition)))
          (λ n. inl (there_gone (goes_case s) l (inr (e.0, n))))
