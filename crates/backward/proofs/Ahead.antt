-- The sets of states, one from the other. Assumes nothing.
use mathlib.Core.Path.{◌≡◌, refl, sym, subst}
use mathlib.Core.Bool.{Bool, true, false, not, ◌&&◌, ◌||◌}
use mathlib.Core.Option.{Option, none, some}
use mathlib.Core.Logic.{⊎_elim}
use Prim.Native.Nat.{ℕ, zero, suc, ◌≤◌, ◌<◌}
use native.Mathlib.Nat.{not-suc-le-zero}
use native.Mathlib.Decide.{ℕ_discrete}
use native.Mathlib.Omega.{arith}
use lib.Dec.{T}
use Rattle.aiger.proofs.Tests.{and, and_left, and_right, not-both, not_T, or_cases, both_ways}
use Rattle.aiger.specs.Search.{least_below}
use Rattle.meaning.proofs.Decisions.{Least, least-below}
use Rattle.machine.specs.Machine.{Machine}
use Rattle.backward.specs.Sets.{any_below, into, hits_now, preimage, ahead, nearest, met}

-- ---- some number below a bound

or_left : (a b : Bool) → T a → T (a || b)
or_left true b t = tt
or_left false b t = absurd t

or_right : (a b : Bool) → T b → T (a || b)
or_right true b t = tt
or_right false b t = t

pub any-in : (n : ℕ) (p : ℕ → Bool) (x : ℕ) → x < n → T (p x) → T (any_below n p)
unfolding any_below
any-in zero p x l h = absurd (not-suc-le-zero l)
any-in (suc n) p x l h = elim (ℕ_discrete x n) [
  | yes e ↦ or_right (any_below n p) (p n) (subst (λ (y : ℕ). T (p y)) e h)
  | no e ↦ or_left (any_below n p) (p n) (any-in n p x (omega arith) h)
]

pub any_out : (n : ℕ) (p : ℕ → Bool) → T (any_below n p) → (x : ℕ) × (x < n) × T (p x)
unfolding any_below
any_out zero p h = absurd h
any_out (suc n) p h =
    ⊎_elim (λ k. let r = any_out n p k in (r.0, omega (arith, r.1), r.2)) (λ k. (n, omega arith, k)) (or_cases (any_below n p) (p n) h)

-- ---- where rows lead

pub into-in : (p : ℕ → Bool) (o : Option ℕ) (x : ℕ) → o ≡ some x → T (p x) → T (into p o)
into-in p o x e h = subst (λ (q : Option ℕ). T (into p q)) (sym e) h

pub into-out : (p : ℕ → Bool) (o : Option ℕ) → T (into p o) → (x : ℕ) × (o ≡ some x) × T (p x)
into-out p none h = absurd h
into-out p (some x) h = (x, refl, h)

module _ (m : Machine) where
  pub hits-in : (s r : ℕ) → r < m.rows → T (m.hit s r) → T (hits_now m s)
  unfolding hits_now
  hits-in s r l h = any-in m.rows (m.hit s) r l h

  pub hits-out : (s : ℕ) → T (hits_now m s) → (r : ℕ) × (r < m.rows) × T (m.hit s r)
  unfolding hits_now
  hits-out s h = any_out m.rows (m.hit s) h

  pub preimage-in : (p : ℕ → Bool) (s r x : ℕ) → r < m.rows → m.step s r ≡ some x → T (p x) → T (preimage m p s)
  unfolding preimage
  preimage-in p s r x l e h = any-in m.rows (λ q. into p (m.step s q)) r l (into-in p (m.step s r) x e h)

  pub preimage-out : (p : ℕ → Bool) (s : ℕ) → T (preimage m p s) → (r : ℕ) × (r < m.rows) × (x : ℕ) × (m.step s r ≡ some x) × T (p x)
  unfolding preimage
  preimage-out p s h =
      let a = any_out m.rows (λ q. into p (m.step s q)) h in
      let b = into-out p (m.step s a.0) a.2 in
      (a.0, a.1, b.0, b.1, b.2)

  -- tests that agree on the states where the rows of s lead
  pub preimage-same : (p q : ℕ → Bool) (s : ℕ) → ((r x : ℕ) → r < m.rows → m.step s r ≡ some x → p x ≡ q x)
      → preimage m p s ≡ preimage m q s
  preimage-same p q s k =
      both_ways (preimage m p s) (preimage m q s)
      (λ h.
      let a = preimage-out p s h in
      preimage-in q s a.0 a.2 a.1 a.3 (subst T (k a.0 a.2 a.1 a.3) a.4))
      (λ h.
      let a = preimage-out q s h in
      preimage-in p s a.0 a.2 a.1 a.3 (subst T (sym (k a.0 a.2 a.1 a.3)) a.4))

  -- ---- exactly j frames

  pub ahead-hit : (s r : ℕ) → r < m.rows → T (m.hit s r) → T (ahead m 0 s)
  unfolding ahead
  ahead-hit s r l h = hits-in s r l h

  pub hit-ahead : (s : ℕ) → T (ahead m 0 s) → (r : ℕ) × (r < m.rows) × T (m.hit s r)
  unfolding ahead
  hit-ahead s h = hits-out s h

  pub ahead_step : (j s r x : ℕ) → r < m.rows → m.step s r ≡ some x → T (ahead m j x) → T (ahead m (suc j) s)
  unfolding ahead
  ahead_step j s r x l e h = preimage-in (ahead m j) s r x l e h

  pub step-ahead : (j s : ℕ) → T (ahead m (suc j) s) → (r : ℕ) × (r < m.rows) × (x : ℕ) × (m.step s r ≡ some x) × T (ahead m j x)
  unfolding ahead
  step-ahead j s h = preimage-out (ahead m j) s h

  -- the same as a path of rows
  abbrev pub Ahead : ℕ → ℕ → Type 0
  Ahead zero s = (r : ℕ) × (r < m.rows) × T (m.hit s r)
  Ahead (suc j) s = (r : ℕ) × (r < m.rows) × (x : ℕ) × (m.step s r ≡ some x) × Ahead j x

  pub ahead_in : (j s : ℕ) → Ahead j s → T (ahead m j s)
  ahead_in zero s (r, l, h) = ahead-hit s r l h
  ahead_in (suc j) s (r, l, x, e, h) = ahead_step j s r x l e (ahead_in j x h)

  pub ahead-out : (j s : ℕ) → T (ahead m j s) → Ahead j s
  ahead-out zero s h = hit-ahead s h
  ahead-out (suc j) s h = let a = step-ahead j s h in (a.0, a.1, a.2, a.3, ahead-out j a.2 a.4)

  -- ---- the nearest hit

  pub nearest_in : (j s : ℕ) → T (ahead m j s) → ((i : ℕ) → i < j → T (ahead m i s) → ⊥) → T (nearest m j s)
  unfolding nearest
  nearest_in j s h f =
      and (ahead m j s) (not (any_below j (λ i. ahead m i s))) h
      (not_T (any_below j (λ i. ahead m i s)) (λ k. let a = any_out j (λ i. ahead m i s) k in f a.0 a.1 a.2))

  pub nearest-ahead : (j s : ℕ) → T (nearest m j s) → T (ahead m j s)
  unfolding nearest
  nearest-ahead j s h = and_left (ahead m j s) (not (any_below j (λ i. ahead m i s))) h

  pub nearest-first : (j s : ℕ) → T (nearest m j s) → (i : ℕ) → i < j → T (ahead m i s) → ⊥
  unfolding nearest
  nearest-first j s h i l k =
      let some-nearer = any_below j (λ i. ahead m i s) in
      not-both some-nearer (and_right (ahead m j s) (not some-nearer) h) (any-in j (λ i. ahead m i s) i l k)

  pub met-in : (j s i : ℕ) → i ≤ j → T (ahead m i s) → T (met m j s)
  unfolding met
  met-in j s i l h = any-in (suc j) (λ i. ahead m i s) i (omega arith) h

  pub met-out : (j s : ℕ) → T (met m j s) → (i : ℕ) × (i ≤ j) × T (ahead m i s)
  unfolding met
  met-out j s h = let a = any_out (suc j) (λ i. ahead m i s) h in (a.0, omega (arith, a.1), a.2)

  -- where a hit is at most j frames ahead, one of them is the nearest
  pub met-nearest : (j s : ℕ) → T (met m j s) → (i : ℕ) × (i ≤ j) × T (nearest m i s)
  met-nearest j s h = go (least_below (suc j) (λ i. ahead m i s)) (least-below (λ i. ahead m i s) (suc j))
    where
      go : (o : Option ℕ) → Least (λ i. ahead m i s) (suc j) o → (i : ℕ) × (i ≤ j) × T (nearest m i s)
      go (some i) (l, k, f) = (i, omega arith, nearest_in i s k f)
      go none f = let a = met-out j s h in absurd (f a.0 (omega (arith, a.1)) a.2)

  -- ---- the sets, one from the other

  pub nearest_zero : (s : ℕ) → nearest m 0 s ≡ hits_now m s
  unfolding ahead
  nearest_zero s = both_ways (nearest m 0 s) (hits_now m s) (nearest-ahead 0 s) (λ h. nearest_in 0 s h (λ i l. absurd (omega arith)))

  -- The set of distance j + 1: a row leads into that of distance j, and no set up to j has the state.
  pub nearest-suc : (j s : ℕ) → nearest m (suc j) s ≡ (preimage m (nearest m j) s && not (met m j s))
  nearest-suc j s =
      let p = preimage m (nearest m j) s in
      both_ways (nearest m (suc j) s) (p && not (met m j s))
      (λ h.
      let a = step-ahead j s (nearest-ahead (suc j) s h) in
      let near : T (nearest m j a.2) =
      nearest_in j a.2 a.4
      (λ i l k. nearest-first (suc j) s h (suc i) (omega arith) (ahead_step i s a.0 a.2 a.1 a.3 k)) in
      and p (not (met m j s)) (preimage-in (nearest m j) s a.0 a.2 a.1 a.3 near)
      (not_T (met m j s) (λ k. let b = met-out j s k in nearest-first (suc j) s h b.0 (omega (arith, b.1)) b.2)))
      (λ h.
      let a = preimage-out (nearest m j) s (and_left p (not (met m j s)) h) in
      nearest_in (suc j) s (ahead_step j s a.0 a.2 a.1 a.3 (nearest-ahead j a.2 a.4))
      (λ i l k. not-both (met m j s) (and_right p (not (met m j s)) h) (met-in j s i (omega arith) k)))

  pub met-zero : (s : ℕ) → met m 0 s ≡ nearest m 0 s
  met-zero s =
      both_ways (met m 0 s) (nearest m 0 s)
      (λ h. let a = met-nearest 0 s h in subst (λ (i : ℕ). T (nearest m i s)) (omega (arith, a.1)) a.2)
      (λ h. met-in 0 s 0 (omega arith) (nearest-ahead 0 s h))

  pub met-suc : (j s : ℕ) → met m (suc j) s ≡ (met m j s || nearest m (suc j) s)
  met-suc j s =
      both_ways (met m (suc j) s) (met m j s || nearest m (suc j) s)
      (λ h.
      let a = met-nearest (suc j) s h in
      elim (ℕ_discrete a.0 (suc j)) [
        | yes e ↦ or_right (met m j s) (nearest m (suc j) s) (subst (λ (i : ℕ). T (nearest m i s)) e a.2)
        | no e ↦ or_left (met m j s) (nearest m (suc j) s) (met-in j s a.0 (omega (arith, a.1)) (nearest-ahead a.0 s a.2))
      ])
      (λ h.
      ⊎_elim (λ k. let a = met-out j s k in met-in (suc j) s a.0 (omega (arith, a.1)) a.2)
      (λ k. met-in (suc j) s (suc j) (omega arith) (nearest-ahead (suc j) s k)) (or_cases (met m j s) (nearest m (suc j) s) h))
