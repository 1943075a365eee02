-- Rows that are decided one after the other: each holds or its place is known. So for every input some outcome comes of them.
-- Assumes nothing.
use mathlib.Core.Path.{◌≡◌, refl}
use mathlib.Core.List.{List, [], ◌∷◌, ◌++◌}
use mathlib.Core.Logic.{◌⊎◌, inl, inr, ⊎_elim, dite}
use Prim.Native.Nat.{ℕ, zero, suc, ◌+◌}
use native.Mathlib.Omega.{arith}
use Rattle.laws.specs.Rows.{Row, FirstRow, Hold}
use Rattle.laws.specs.Lowest.{EachTo, LowestWithout, lowest_row}
use Rattle.laws.proofs.LowestLaws.{Reached, reached_first, reached_next, reached_all, reached_fails, lowest_not_each}

-- a row is decided where those before it hold
abbrev pub Decided : List Row → Type 0
Decided [] = Unit {0}
Decided (r ∷ rs) = (r.holds × Decided rs) ⊎ ((r.holds → ⊥) × ((p : ℕ) × r.place p))

pub first_row : (rs : List Row) (done : ℕ → Type 0) → Decided rs → (Hold rs → (p : ℕ) × done p) → (n : ℕ) × (p : ℕ) × FirstRow rs done n p
first_row [] done d some = let p = some tt in (0, p.0, (refl, p.1))
first_row (r ∷ rs) done (inl (h, d)) some =
    let t = first_row rs done d (λ k. some (h, k)) in (t.0, t.1, inr (h, t.2))
first_row (r ∷ rs) done (inr (n, (p, q))) some = (r.number, p, inl (n, refl, q))

pub decided_join : (front rest : List Row) → Decided front → (Hold front → Decided rest) → Decided (front ++ rest)
decided_join [] rest d more = more tt
decided_join (r ∷ rs) rest (inl (h, d)) more = inl (h, decided_join rs rest d (λ k. more (h, k)))
decided_join (r ∷ rs) rest (inr f) more = inr f

pub decided_hold : (rs : List Row) → Decided rs → Dec (Hold rs)
decided_hold [] d = yes tt
decided_hold (r ∷ rs) (inl (h, d)) = dite (decided_hold rs d) (λ k. yes (h, k)) (λ n. no (λ k. n k.1))
decided_hold (r ∷ rs) (inr f) = no (λ k. f.0 k.0)

-- one row more, whose fact is decided and whose place is then known
pub decided_row : {Fact Place Rest : Type 0} → Dec Fact → Place → (Fact → Rest) → (Fact × Rest) ⊎ ((Fact → ⊥) × Place)
decided_row d p more = dite d (λ h. inl (h, more h)) (λ n. inr (n, p))

-- a property that is decided at each number is that of each, or there is a lowest without it
pub lowest_or_each : (m : ℕ) (P : ℕ → Type 0) → EachTo m (λ i. Dec (P i)) → EachTo m P ⊎ ((i : ℕ) × LowestWithout m P i)
lowest_or_each m P decided = from m 1 (omega arith) (reached_first m P)
  where
    from : (left i : ℕ) → i + left ≡ m + 1 → Reached m P i → EachTo m P ⊎ ((i : ℕ) × LowestWithout m P i)
    from zero i e r = inl (reached_all m P i r (omega arith))
    from (suc left) i e r =
        dite (decided i (r.first, omega arith)) (λ p. from left (i + 1) (omega arith) (reached_next m P i r (omega arith) p))
        (λ f. inr (i, reached_fails m P i r (omega arith) f))

pub decided_each : (n m : ℕ) (P : ℕ → Type 0) (rs : List Row) → EachTo m (λ i. Dec (P i)) → (EachTo m P → Decided rs)
    → Decided (lowest_row n m P ∷ rs)
decided_each n m P rs decided more =
    ⊎_elim (λ e. inl (e, more e)) (λ l. inr (lowest_not_each m P l.0 l.1, l)) (lowest_or_each m P decided)
