-- The laws of the step that places a frame: what the routines of the slot's record promise is what filling does with
-- the state that the record holds.
-- Assumes nothing.
use mathlib.Core.Path.{◌≡◌, refl, sym, ap, ◌∙◌}
use mathlib.Core.Logic.{◌⊎◌, inl, inr, dite}
use Prim.Native.Nat.{ℕ, ◌+◌, ◌%◌, ◌≤◌, ◌<◌, zero-le}
use native.Mathlib.Decide.{dec_lt, ℕ_discrete}
use native.Mathlib.Omega.{arith}
use mathlib.Core.List.{List, []}
use borrow.Author.Count.{below_more}
use lib.ListN.{length, set as stored}
use lib.Seq.{get_or-set_same, get_or-set_other}
use Rattle.std.specs.Prelude.{Some}
use borrow.Author.Tests.{lt-ltb, le-ltb}
use Rattle.laws.proofs.SumLaws.{same_cases}
use Rattle.terms.specs.Ranges.{Repetition}
use Rattle.cycles.specs.declared.Slot.{Slot}
use Rattle.cycles.specs.Bits.{bit, Shows}
use Rattle.cycles.specs.Bits.Shows.{set, clear}
use Rattle.cycles.specs.Frames.{Names}
use Rattle.cycles.specs.Slots.{Free, Fresh, FirstFree, AllFree, FrameTaken}
use Rattle.cycles.proofs.BitLaws.{bit_lt, bit_none}
use Rattle.cycles.proofs.FrameLaws.{named_remainder, remainder_named}
use Rattle.cycles.proofs.Unique.{one_first_free}
use Rattle.filling.specs.declared.UnitFrame.{UnitFrame}
use Rattle.filling.specs.declared.current.Current.{Current}
use Rattle.filling.specs.Cycles.{Cycles, takes, first_free}
use Rattle.filling.specs.Runs.{State, start, goes_to, after}
use Rattle.filling.specs.Private.{Holds, Holding, NoTrouble, Stepped, current_in}
use Rattle.filling.specs.Private.Stepped.{goes}
use Rattle.filling.proofs.CycleLaws.{is_first_free}

-- ---- the cycles that a slot's record holds

-- the record's first free cycle is the state's
first_alike : (cycles : Cycles) (s : Slot) → Holds cycles s.free → (r : ℕ) → FirstFree s r → r ≡ first_free cycles
first_alike cycles s h r f =
    let w = is_first_free cycles in
    one_first_free s r (first_free cycles) f
    (record {
      within = w.within;
      before = λ c l e. w.before c zero-le l (omega (arith, w.within, h c (omega (arith, w.within)), e));
      found = λ l. omega (arith, h (first_free cycles) l, w.found l);
    })

-- nothing is free where a group begins
pub start_holds : (k : ℕ) (c : Current) → c.begun ≡ k → c.slot.free ≡ 0 → Holding c.slot.unit (start k) c
start_holds k c b f =
    record { unit = refl; begun = b; cycles = λ d l. omega (arith, ap (λ (x : ℕ). bit x d) f, bit_none d) }

-- the groups before g, and g itself, begin where they are to
pub begun_next : (before : ℕ → ℕ) (all : List Current) (g : ℕ) (c : Current) → g < length all
    → Holding g (start (before g)) c → ((h : ℕ) → h < g → Holding h (start (before h)) (current_in all h))
    → (h : ℕ) → h < g + 1 → Holding h (start (before h)) (current_in (stored all g c) h)
begun_next before all g c l here earlier =
    below_more (λ (h : ℕ). Holding h (start (before h)) (current_in (stored all g c) h)) g
    (λ h k. rw (get_or-set_other all g h c (current_in [] 0) (λ e. omega arith)) (earlier h k))
    (rw (get_or-set_same all g c (current_in [] 0) l) here)

-- nothing is free in any group, with group g begun too
pub nothing_free : {n : ℕ} (all : List Current) (g : ℕ) (c : Current) → g < length all → Holds (λ i. 1) c.slot.free
    → ((h : ℕ) → h < n → Holds (λ i. 1) (current_in all h).slot.free)
    → (h : ℕ) → h < n → Holds (λ i. 1) (current_in (stored all g c) h).slot.free
nothing_free all g c l here each h k =
    dite (ℕ_discrete h g) (λ e. rw (e, get_or-set_same all g c (current_in [] 0) l) here)
    (λ d. rw (get_or-set_other all g h c (current_in [] 0) d) (each h k))

-- ---- the slot that a frame goes to

module _ {u : ℕ} {s : State} {c : Current} (r : ℕ) (h : Holding u s c) (f : FirstFree c.slot r) where
  alike : r ≡ first_free s.cycles
  alike = first_alike s.cycles c.slot h.cycles r f

  -- the current one while it has a free cycle
  pub goes_kept : r < 64 → Holding u (goes_to s) c
  unfolding goes_to
  goes_kept l = rw (lt-ltb (first_free s.cycles) 64 (omega (arith, alike))) h

  -- else the next
  pub goes_begun : (d : Current) → 64 ≤ r → Fresh c.slot.unit d.slot → d.begun ≡ c.begun + 1 → Holding u (goes_to s) d
  unfolding goes_to
  goes_begun d l fresh e =
      rw (le-ltb (first_free s.cycles) 64 (omega (arith, alike)))
      (record { unit = fresh.unit ∙ h.unit; begun = omega arith; cycles = λ i j. omega (arith, fresh.free i j) })

-- ---- one frame, in the slot `to` that it goes to, whose first free cycle is b

module _ {u : ℕ} (s : State) (f : UnitFrame) (seven : Repetition f.repetition) (to : Current)
    (h : Holding u (goes_to s) to) (b : ℕ) (first : FirstFree to.slot b)
  where
    abbrev R : ℕ
    R = f.repetition

    abbrev base : ℕ
    base = first_free (goes_to s).cycles

    base_alike : b ≡ base
    base_alike = first_alike (goes_to s).cycles to.slot h.cycles b first

    -- each test that fails
    pub not_below : R ≤ b → NoTrouble s f → ⊥
    not_below l t = omega (arith, base_alike, t.below)

    pub not_free : (AllFree to.slot R b → ⊥) → NoTrouble s f → ⊥
    not_free n t = n (λ c l names. omega (arith, h.cycles c l, t.free c l (named_remainder names ∙ base_alike)))

    -- and past them both
    module _ (below : b < R) (free : AllFree to.slot R b) where
      untaken : (c : ℕ) → c < 64 → c % R ≡ base → (goes_to s).cycles c ≡ 0
      untaken c l e = omega (arith, h.cycles c l, free c l (remainder_named seven below (e ∙ sym base_alike)))

      module _ (d : Current) (e : d.begun ≡ to.begun) (t : FrameTaken to.slot R b d.slot) where
        taken_holds : Holds (after s f).cycles d.slot.free
        taken_holds c l = go (t.free c l) (same_cases base (c % R))
          where
            named : base ≡ c % R → Names R b c
            named q = remainder_named seven below (sym q ∙ sym base_alike)

            go : {x : ℕ} → Shows (Free to.slot c × (Names R b c → ⊥)) x
                → ((base ≡ c % R) × (takes R base c ≡ 1)) ⊎ ((base ≡ c % R → ⊥) × (takes R base c ≡ 0))
                → (goes_to s).cycles c + takes R base c + x ≡ 1
            go (set g) (inl q) = absurd (g.1 (named q.0))
            go (set g) (inr q) = omega (arith, h.cycles c l, g.0, q.1)
            go (clear g) (inl q) = omega (arith, untaken c l (sym q.0), q.1)
            go (clear g) (inr q) =
                let unnamed : Names R b c → ⊥ = λ n. q.0 (sym base_alike ∙ sym (named_remainder n)) in
                dite (dec_lt 0 (bit to.slot.free c))
                (λ p. absurd (g (omega (arith, bit_lt to.slot.free c), unnamed)))
                (λ p. omega (arith, h.cycles c l, q.1))

        pub frame_placed : Stepped u s f (Some (record { slot = to.begun; repetition = R; base = b })) d
        frame_placed =
            rw (h.begun, base_alike)
            (goes (record { below = omega (arith, base_alike); free = untaken })
            (record { unit = t.unit ∙ h.unit; begun = e ∙ h.begun; cycles = taken_holds }))
