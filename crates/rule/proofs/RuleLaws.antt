-- Laws of the rule: the search, place by place, decides `Keeps`, and the first of the seven is the largest; if R keeps,
-- every smaller one does; one that keeps stays within the period (the paper's equation 2); a higher bound never gives
-- a smaller one; the outcome is unique.
use mathlib.Core.Path.{◌≡◌, refl, ◌∙◌, sym, ap}
use mathlib.Core.Bool.{Bool, false, false≢true}
use mathlib.Core.List.{List, [], ◌∷◌, Memᴰ}
use Rattle.std.specs.Prelude.{◌≢◌, Option, None, Some, IfSome, IsSome, MatchOption, ◌↔◌, unwrap_or}
use mathlib.Core.Logic.{dite, ⊎_elim}
use Prim.Native.Nat.{ℕ, ◌+◌, ◌-◌, ◌*◌, ◌^◌, ◌≤◌, ◌<◌}
use lib.Dec.{leb, eqb, eqb→eq}
use lib.ListN.{get_or}
use lib.Pow.{pow_mono}
use Rattle.laws.proofs.Tests.{at}
use borrow.Author.Tests.{leb-true, leb-false}
use native.Mathlib.Decide.{ℕ_discrete, dec_le}
use native.Mathlib.Nat.{lt_of_not-le, mul_assoc, mul-pos, mul-le-mul}
use native.Mathlib.Omega.{arith}
use Rattle.laws.specs.Says.{Says}
use Rattle.laws.proofs.SaysLaws.{says, says_same}
use Rattle.laws.proofs.DecidedLaws.{lowest_or_each}
use Rattle.laws.proofs.NumbersLaws.{among, within}
use Rattle.laws.proofs.GivenLaws.{given_unique}
use Rattle.laws.proofs.OptionLaws.{same_not_zero}
use Rattle.terms.specs.declared.Settings.{Settings}
use Rattle.terms.specs.declared.Signal.{Signal}
use Rattle.terms.specs.declared.Frame.{Frame}
use Rattle.laws.specs.Lowest.{Between}
use Rattle.terms.specs.Ranges.{Valid, Repetition}
use Rattle.terms.proofs.RepetitionLaws.{repetition_multiple, repetition_positive, repetition_most}
use Rattle.age.specs.Age.{Age}
use Rattle.age.specs.declared.Frames.{Frames}
use Rattle.age.specs.AgeGiven.{frame_in, InRange, AgeGiven}
use Rattle.age.proofs.AgeLaws.{age_unique, age_exists}
use Rattle.age.proofs.SpanLaws.{oftener_younger, span_within_period}
use Rattle.age.proofs.RangedFrames.{first_below}
use Rattle.rule.specs.Rule.{Keeps, segment, Largest, RepetitionGiven}
use Rattle.rule.proofs.AllLaws.{FirstWith}
use Rattle.rule.specs.Places.{KeptIn, KeptAt}

-- an age found in a frame decides whether the bound is kept there
pub age_says : (s : Settings) (x : Signal) (f : Frame) (v : ℕ) (b : Bool) → Age s x f v → b ≡ leb v x.bound → Says (KeptIn s x f) b
age_says s x f v b p e =
    says b (λ t a q. omega (arith, age_unique _ _ _ _ _ _ a v q p, leb-true v x.bound (sym e ∙ t)))
    (λ t kept. omega (arith, kept v p, leb-false v x.bound (sym e ∙ t)))

-- and where none is found, the frame is out of range
pub found_says : (s : Settings) (x : Signal) (f : Frame) (o : Option ℕ) (b : Bool) → AgeGiven s x f (unwrap_or o 0)
    → (IsSome o ↔ InRange s x f) → MatchOption o (b ≡ false) (λ v. b ≡ leb v x.bound) → Says (InRange s x f × KeptIn s x f) b
found_says s x f None b g i e = rw e (λ p. false≢true (i.1 p.0))
found_says s x f (Some v) b g i e =
    let r = i.0 refl in says_same b (λ k. (r, k)) (λ p. p.1) (age_says s x f v b (g.inside r) e)

-- "at every slot .. and every base 0 to R − 1"
pub each_keeps : (s : Settings) (x : Signal) (R : ℕ) → ((b : ℕ) → b < R → KeptAt s x R b) → Keeps s x (segment s) R
each_keeps s x R kept k b a m l p =
    let h = within 1 s.slots k m in
    let same : k - 1 + 1 ≡ k = omega arith in
    kept b l (k - 1) (omega arith) a (rw same p)

pub keeps_each : (s : Settings) (x : Signal) (R : ℕ) → Keeps s x (segment s) R → (b : ℕ) → b < R → KeptAt s x R b
keeps_each s x R keeps b h k l a p = keeps (k + 1) b a (among 1 s.slots (k + 1) (omega arith) (omega arith)) h p

module _ (s : Settings) (x : Signal) (v : Valid s x) where
  pub span_range : (R : ℕ) → Repetition R → Between 1 1024000 (R * s.cycle)
  span_range R r =
      (mul-pos (repetition_positive R r) (omega arith), mul-le-mul {m₂ = 16000} (repetition_most R r) (omega arith))

  -- "If some R keeps it, every smaller one does."
  pub smaller_keeps : (slots : List ℕ) → ((k : ℕ) → Memᴰ k slots → Between 1 s.slots k) → (Q R : ℕ)
      → Repetition Q → Repetition R → Q ≤ R → Keeps s x slots R → Keeps s x slots Q
  smaller_keeps slots inside Q R q r h keeps k b a m l p =
      let (n, e) = repetition_multiple Q R q r h in
      let f = first_below s (frame_in k R b) v.settings (inside k m) (omega arith) in
      let (older, age) = age_exists _ _ s.packing s.slot x.offset x.period f v.signal.period.0 in
      let more : R * s.cycle ≡ n * (Q * s.cycle) = ap (λ (i : ℕ). i * s.cycle) e ∙ mul_assoc n Q s.cycle in
      let younger = oftener_younger _ (Q * s.cycle) n _ _ _ _ a older (omega arith) p (rw (← more) age) in
      omega (arith, younger, keeps k b older m (omega arith) age)

  -- equation 2: "such an R times the cycle length never exceeds the period"
  pub keeps_within_period : (slots : List ℕ) (k R : ℕ) → Memᴰ k slots → Between 1 s.slots k → 0 < R
      → Keeps s x slots R → R * s.cycle ≤ x.period
  keeps_within_period slots k R m h l keeps =
      let f = first_below s (frame_in k R 0) v.settings h l in
      let t = v.signal.period.0 in
      let (a, age) = age_exists _ _ s.packing s.slot x.offset x.period f t in
      span_within_period _ _ _ _ _ _ f t a (omega arith) age (omega (arith, keeps k 0 a m l age))

-- a higher bound keeps what a lower one keeps
pub raised_keeps : (s : Settings) (x : Signal) (new : ℕ) (slots : List ℕ) (R : ℕ) → x.bound ≤ new → Keeps s x slots R
    → Keeps s (record { unit = x.unit; period = x.period; offset = x.offset; size = x.size; bound = new }) slots R
raised_keeps s x new slots R h keeps k b a m l p = omega (arith, keeps k b a m l p)

-- what keeps more gets no smaller repetition
pub largest_grows : (P Q : ℕ → Type 0) → ((R : ℕ) → P R → Q R) → (q r : ℕ) → Largest P q → Largest Q r → q ≤ r
largest_grows P Q f q r l m =
    dite (ℕ_discrete q 0) (λ z. omega arith) (λ n. let h = l.has n in m.largest q h.0 (f q h.1))

pub largest_unique : (P : ℕ → Type 0) (q r : ℕ) → Largest P q → Largest P r → q ≡ r
largest_unique P q r l m =
    omega (arith, largest_grows P P (λ R p. p) q r l m, largest_grows P P (λ R p. p) r q m l)

pub repetition_given_unique : (s : Settings) (x : Signal) (q r : ℕ) → RepetitionGiven s x q → RepetitionGiven s x r → q ≡ r
repetition_given_unique s x =
    given_unique (Valid s x) (Largest (Keeps s x (segment s))) (largest_unique (Keeps s x (segment s)))

-- of what may be none
pub repetition_unique : (s : Settings) (x : Signal) (a b : Option ℕ) → RepetitionGiven s x (unwrap_or a 0) → IfSome a Repetition
    → RepetitionGiven s x (unwrap_or b 0) → IfSome b Repetition → a ≡ b
repetition_unique s x a b p some q other =
    same_not_zero a b (not_none_zero a some) (not_none_zero b other)
    (repetition_given_unique s x (unwrap_or a 0) (unwrap_or b 0) p q)
  where
    not_none_zero : (o : Option ℕ) → IfSome o Repetition → o ≢ Some 0
    not_none_zero None i e = cc e
    not_none_zero (Some R) i e = omega (arith, repetition_positive R i, ap (λ o. unwrap_or o 0) e)

-- where the repetitions with P are decided, there is a largest, or 0: the first from 64 down
module _ (P : ℕ → Type 0) (decided : (R : ℕ) → Repetition R → Dec (P R)) where
  power : (i : ℕ) → Between 1 7 i → Dec (P (2 ^ (7 - i)))
  power i b = decided (2 ^ (7 - i)) (7 - i, omega arith, refl)

  -- R stands among the seven by its exponent
  among_seven : (R : ℕ) (r : Repetition R) → P R → P (2 ^ (7 - (7 - r.0)))
  among_seven R (e, h, p) q =
      let same : 7 - (7 - e) ≡ e = omega arith in
      rw (p ∙ ap (λ (i : ℕ). 2 ^ i) (sym same)) at q

  pub largest_exists : (r : ℕ) × Largest P r
  largest_exists =
      ⊎_elim
      (λ none. (0, record { has = λ n. absurd (n refl); largest = λ R r p. absurd (none (7 - r.0) (omega arith) (among_seven R r p)) }))
      (λ (i, l). (
        2 ^ (7 - i),
        record {
          has = λ n. ((7 - i, omega arith, refl), dite (power i l.within) (λ p. p) (λ f. absurd (l.fails f)));
          largest = λ R r p. dite (dec_le r.0 (7 - i)) (λ h. omega (arith, r.2, pow_mono h))
              (λ h. absurd (l.before (7 - r.0) (omega arith) (omega (arith, lt_of_not-le h)) (among_seven R r p)));
        },
      ))
      (lowest_or_each 7 (λ i. P (2 ^ (7 - i)) → ⊥) (λ i b. dite (power i b) (λ p. no (λ f. f p)) (λ f. yes f)))

-- the seven, the largest first
abbrev pub seven : List ℕ
seven = 64 ∷ 32 ∷ 16 ∷ 8 ∷ 4 ∷ 2 ∷ 1 ∷ []

pub seven_at : (k d : ℕ) → k < 7 → get_or seven k d ≡ 2 ^ (6 - k)
seven_at k d h = eqb→eq _ _ (at (λ i. eqb (get_or seven i d) (2 ^ (6 - i))) 7 tt k h)

pub seven_repetition : (r k : ℕ) → k < 7 → r ≡ get_or seven k r → Repetition r
seven_repetition r k h e = (6 - k, omega arith, e ∙ seven_at k r h)

-- each of the seven has its place among them
seven_place : (R : ℕ) → Repetition R → (k : ℕ) × (k < 7) × (get_or seven k 0 ≡ R)
seven_place R (e, h, p) =
    let same : 6 - (6 - e) ≡ e = omega arith in
    (6 - e, omega arith, seven_at (6 - e) 0 (omega arith) ∙ ap (λ (i : ℕ). 2 ^ i) same ∙ sym p)

-- the first of the seven with P is the largest
pub first_largest : (P : ℕ → Type 0) (r : Option ℕ) → FirstWith P seven r → Largest P (unwrap_or r 0)
first_largest P None none =
    record { has = λ n. absurd (n refl); largest = λ R h p. let (k, l, e) = seven_place R h in absurd (none k 0 (omega arith) l (rw e p)) }
first_largest P (Some x) (p, i, l, is, before) =
    record { has = λ n. (seven_repetition x i l (sym (is x)), p); largest = most }
  where
    most : (R : ℕ) → Repetition R → P R → R ≤ x
    most R h q =
        let (k, m, e) = seven_place R h in
        dite (dec_le i k)
        (λ n. omega (arith, seven_at k 0 m, seven_at i 0 l, is 0, pow_mono {i = 6 - k} {j = 6 - i} (omega arith)))
        (λ n. absurd (before k 0 (omega arith) (lt_of_not-le n) (rw e q)))

-- a repetition of a valid signal that keeps its bound
abbrev pub KeptBy : Settings → Signal → ℕ → Type 0
KeptBy s x R = (Valid s x × Repetition R) × Keeps s x (segment s) R

-- the frames found, or none, decide it
pub kept_says : (s : Settings) (x : Signal) (R : ℕ) (o : Option Frames) (b : Bool)
    → IfSome o (λ p. (p.settings ≡ s) × (p.signal ≡ x) × (p.repetition ≡ R)) → (IsSome o ↔ Valid s x × Repetition R)
    → MatchOption o (b ≡ false) (λ p. Says (Keeps p.settings p.signal (segment p.settings) p.repetition) b) → Says (KeptBy s x R) b
kept_says s x R None b e i k = rw k (λ h. false≢true (i.1 h.0))
kept_says s x R (Some p) b e i k =
    says_same b (λ h. (i.0 refl, h)) (λ h. h.1) (rw e.0 at (rw e.1 at (rw e.2 at k)))

-- the first of the seven is the repetition that is given
pub first_given : (s : Settings) (x : Signal) (r : Option ℕ) → FirstWith (KeptBy s x) seven r → RepetitionGiven s x (unwrap_or r 0)
first_given s x r first =
    let l = first_largest (KeptBy s x) r first in
    record {
      inside = λ v. record { has = λ n. let h = l.has n in (h.0, h.1.1); largest = λ R h k. l.largest R h ((v, h), k) };
      outside = λ n. dite (ℕ_discrete (unwrap_or r 0) 0) (λ z. z) (λ m. absurd (n (l.has m).1.0.0));
    }
