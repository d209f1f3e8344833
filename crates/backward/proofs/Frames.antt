-- Hits of a frame, and the states that its prefixes lead to. Assumes nothing.
use mathlib.Core.Path.{◌≡◌, refl, sym, ap, ap₂, ◌∙◌, subst}
use mathlib.Core.Bool.{Bool, not, ◌&&◌}
use mathlib.Core.Option.{Option, none, some}
use Prim.Native.Nat.{ℕ, zero, suc, ◌+◌, ◌*◌, ◌/◌, ◌%◌, ◌≤◌, ◌<◌}
use native.Mathlib.Nat.{mod-lt}
use native.Mathlib.Decide.{dec_lt, ℕ_discrete}
use native.Mathlib.Omega.{arith}
use lib.Dec.{T}
use Rattle.aiger.proofs.Tests.{and_left, both_ways}
use Rattle.machine.specs.Machine.{Machine, prefixes, stepped, state_after, hit_from, hits_at}
use Rattle.machine.proofs.Expand.{over, rest, under, came, prefix-fits}
use Rattle.machine.proofs.Theorems.{Quiet, QuietBefore}
use Rattle.backward.specs.Sets.{any_below, preimage, ahead, nearest, met, Inside}
use Rattle.backward.specs.Walk.{cut}
use Rattle.backward.proofs.Ahead.{
  any-in,
  any_out,
  preimage-out,
  preimage-same,
  ahead-hit,
  hit-ahead,
  ahead_step,
  step-ahead,
  nearest_in,
  nearest-ahead,
  met-in,
  met-nearest,
  nearest-suc,
}

module _ (m : Machine) where
  -- ---- one frame more

  pub next_fits : (f y r : ℕ) → y < prefixes m f → r < m.rows → y * m.rows + r < prefixes m (suc f)
  unfolding prefixes
  next_fits f y r l k = under y r (prefixes m f) m.rows l k

  pub next-state : (f y s r x : ℕ) → r < m.rows → state_after m f y ≡ some s → m.step s r ≡ some x
      → state_after m (suc f) (y * m.rows + r) ≡ some x
  unfolding state_after
  next-state f y s r x l e k =
      ap₂ (λ (a : ℕ) (b : ℕ). stepped m (state_after m f a) b) (over y r m.rows l) (rest y r m.rows l)
      ∙ ap (λ (o : Option ℕ). stepped m o r) e ∙ k

  pub last-hit : (t y s r : ℕ) → r < m.rows → state_after m t y ≡ some s → T (m.hit s r) → T (hits_at m t (y * m.rows + r))
  unfolding hits_at
  last-hit t y s r l e h =
      subst T
      (sym (ap₂ (λ (a : ℕ) (b : ℕ). hit_from m (state_after m t a) b) (over y r m.rows l) (rest y r m.rows l)
      ∙ ap (λ (o : Option ℕ). hit_from m o r) e))
      h

  -- a hit comes from a state
  pub from-state : (t x : ℕ) → T (hits_at m t x) → (s : ℕ) × (state_after m t (x / m.rows) ≡ some s) × T (m.hit s (x % m.rows))
  unfolding hits_at
  from-state t x h = go (state_after m t (x / m.rows)) refl h
    where
      go : (o : Option ℕ) → state_after m t (x / m.rows) ≡ o → T (hit_from m o (x % m.rows))
          → (s : ℕ) × (state_after m t (x / m.rows) ≡ some s) × T (m.hit s (x % m.rows))
      go none q k = absurd k
      go (some s) q k = (s, q, k)

  -- a machine with a prefix of one frame or more has a row
  pub some-row : (t x : ℕ) → x < prefixes m (suc t) → 0 < m.rows
  unfolding prefixes
  some-row t x l = go m.rows l
    where
      go : (n : ℕ) → x < prefixes m t * n → 0 < n
      go zero k = absurd (omega arith)
      go (suc n) k = omega arith

  -- ---- hits by the states on the way

  -- with j frames to go, a hit has led to a state from which the machine can hit in j frames
  pub passes : 0 < m.rows → (j f t x : ℕ) → t ≡ f + j → T (hits_at m t x)
      → (s : ℕ) × (state_after m f (cut m (suc j) x) ≡ some s) × T (ahead m j s)
  unfolding cut
  passes w zero f t x e h =
      let a = from-state t x h in
      let b = ahead-hit m a.0 (x % m.rows) (mod-lt x w) a.2 in
      (a.0, ap (λ (u : ℕ). state_after m u (x / m.rows)) (omega arith) ∙ a.1, b)
  passes w (suc j) f t x e h =
      let a = passes w j (suc f) t x (omega arith) h in
      let y = cut m (suc j) x in
      let b = came m f y a.0 a.1 in
      (b.0, b.1, ahead_step m j b.0 (y % m.rows) a.0 (mod-lt y w) b.2 a.2)

  -- from a state that can hit in j frames a hit follows
  pub follows : (j f t y s : ℕ) → t ≡ f + j → y < prefixes m f → state_after m f y ≡ some s → T (ahead m j s)
      → (x : ℕ) × (x < prefixes m (suc t)) × T (hits_at m t x) × (cut m (suc j) x ≡ y)
  unfolding cut
  follows zero f t y s e l k h =
      let a = hit-ahead m s h in
      let x = y * m.rows + a.0 in
      let q : f ≡ t = omega arith in (
        x,
        subst (λ (u : ℕ). x < prefixes m (suc u)) q (next_fits f y a.0 l a.1),
        subst (λ (u : ℕ). T (hits_at m u x)) q (last-hit f y s a.0 a.1 k a.2),
        over y a.0 m.rows a.1,
      )
  follows (suc j) f t y s e l k h =
      let a = step-ahead m j s h in
      let z = y * m.rows + a.0 in
      let n = next-state f y s a.0 a.2 a.1 k a.3 in
      let b = follows j (suc f) t z a.2 (omega arith) (next_fits f y a.0 l a.1) n a.4 in
      (b.0, b.1, b.2, ap (λ (n : ℕ). n / m.rows) b.3 ∙ over y a.0 m.rows a.1)

  -- the sequences of frame t begin with start places
  pub cut_fits : (j f t x : ℕ) → t ≡ f + j → x < prefixes m (suc t) → cut m (suc j) x < prefixes m f
  unfolding cut
  cut_fits zero f t x e l = subst (λ (u : ℕ). x / m.rows < prefixes m u) (omega arith) (prefix-fits m t x l)
  cut_fits (suc j) f t x e l = prefix-fits m f (cut m (suc j) x) (cut_fits j (suc f) t x (omega arith) l)

  -- ---- the first frame with a hit

  -- A state that is reached in frame f, where no frame before t has a hit: up to frame t the machine can hit in j frames exactly where its
  -- nearest hit is j frames ahead.
  pub reached-nearest : (t : ℕ) → QuietBefore m t → (f j y s : ℕ) → f + j ≤ t → y < prefixes m f → state_after m f y ≡ some s
      → nearest m j s ≡ ahead m j s
  reached-nearest t quiet f j y s l k e =
      both_ways (nearest m j s) (ahead m j s) (nearest-ahead m j s)
      (λ h. nearest_in m j s h (λ i d g. let a = follows i f (f + i) y s refl k e g in quiet (f + i) (omega arith) a.0 a.1 a.2))

  pub start-nearest : (t : ℕ) → QuietBefore m t → (y : ℕ) → y < m.starts → nearest m t (m.start y) ≡ ahead m t (m.start y)
  unfolding prefixes state_after
  start-nearest t quiet y l = reached-nearest t quiet 0 t y (m.start y) (omega arith) l refl

  -- a frame has a hit exactly where a start state can hit in that many frames
  pub start-hits : (t y : ℕ) → y < m.starts → T (ahead m t (m.start y)) → (x : ℕ) × (x < prefixes m (suc t)) × T (hits_at m t x)
  unfolding prefixes state_after
  start-hits t y l h = let a = follows t 0 t y (m.start y) (omega arith) l refl h in (a.0, a.1, a.2)

  pub hit_starts : (t x : ℕ) → x < prefixes m (suc t) → T (hits_at m t x) → (y : ℕ) × (y < m.starts) × T (ahead m t (m.start y))
  unfolding prefixes state_after
  hit_starts t x l h =
      let y = cut m (suc t) x in
      let a = passes (some-row t x l) t 0 t x (omega arith) h in
      let q : m.start y ≡ a.0 = cc in
      (y, cut_fits t 0 t x (omega arith) l, subst (λ (s : ℕ). T (ahead m t s)) (sym q) a.2)

  -- where no frame before t has a hit, frame t has one exactly where the nearest hit of a start state is t frames ahead
  pub first_frame : (t : ℕ) → QuietBefore m t
      → any_below (prefixes m (suc t)) (hits_at m t) ≡ any_below m.starts (λ y. nearest m t (m.start y))
  first_frame t quiet =
      both_ways (any_below (prefixes m (suc t)) (hits_at m t)) (any_below m.starts (λ y. nearest m t (m.start y)))
      (λ h.
      let a = any_out (prefixes m (suc t)) (hits_at m t) h in
      let b = hit_starts t a.0 a.1 a.2 in
      any-in m.starts (λ y. nearest m t (m.start y)) b.0 b.1 (subst T (sym (start-nearest t quiet b.0 b.1)) b.2))
      (λ h.
      let a = any_out m.starts (λ y. nearest m t (m.start y)) h in
      let b = start-hits t a.0 a.1 (nearest-ahead m t (m.start a.0) a.2) in
      any-in (prefixes m (suc t)) (hits_at m t) b.0 b.1 b.2)

  -- the same in plain terms
  pub quiet_frame : (t : ℕ) → QuietBefore m t → ((y : ℕ) → y < m.starts → T (nearest m t (m.start y)) → ⊥) → Quiet m t
  quiet_frame t quiet k x l h =
      let b = hit_starts t x l h in k b.0 b.1 (subst T (sym (start-nearest t quiet b.0 b.1)) b.2)

  pub loud-frame : (t y : ℕ) → y < m.starts → T (nearest m t (m.start y)) → (x : ℕ) × (x < prefixes m (suc t)) × T (hits_at m t x)
  loud-frame t y l h = start-hits t y l (nearest-ahead m t (m.start y) h)

  -- one frame more has no hit
  pub quiet-more : (t : ℕ) → QuietBefore m t → Quiet m t → QuietBefore m (suc t)
  quiet-more t b q u l = elim (ℕ_discrete u t) [ yes e ↦ subst (Quiet m) (sym e) q | no e ↦ b u (omega arith) ]

  -- ---- an empty set

  -- states that starts and steps do not leave
  record Kept (among : ℕ → Type 0) : Type 0 where
    begins : (y : ℕ) → y < m.starts → among (m.start y)
    goes : (s r x : ℕ) → among s → r < m.rows → m.step s r ≡ some x → among x

  module _ (among : ℕ → Type 0) (kept : Kept among) where
    -- no state that is kept has its nearest hit j frames ahead
    abbrev Bare : ℕ → Type 0
    Bare j = (s : ℕ) → among s → T (nearest m j s) → ⊥

    bare-more : (j : ℕ) → Bare j → Bare (suc j)
    bare-more j b s k h =
        let a = preimage-out m (nearest m j) s (and_left (preimage m (nearest m j) s) (not (met m j s)) (subst T (nearest-suc m j s) h)) in
        b a.2 (kept.goes s a.0 a.2 k a.1 a.3) a.4

    bare-after : (j : ℕ) → Bare j → (i : ℕ) → j ≤ i → Bare i
    bare-after j b zero l = subst Bare (omega arith) b
    bare-after j b (suc i) l = elim (ℕ_discrete j (suc i)) [ yes e ↦ subst Bare e b | no e ↦ bare-more i (bare-after j b i (omega arith)) ]

    bare-quiet : (j : ℕ) → Bare j → QuietBefore m j → (u : ℕ) → Quiet m u
    bare-quiet j b quiet u x l h =
        let a = hit_starts u x l h in
        let n = met-nearest m u (m.start a.0) (met-in m u (m.start a.0) u (omega arith) a.2) in
        elim (dec_lt n.0 j) [
          | yes d ↦ let c = loud-frame n.0 a.0 a.1 n.2 in quiet n.0 d c.0 c.1 c.2
          | no d ↦ bare-after j b n.0 (omega arith) (m.start a.0) (kept.begins a.0 a.1) n.2
        ]

  -- no state has its nearest hit j frames ahead
  abbrev pub Empty : ℕ → Type 0
  Empty j = (s : ℕ) → T (nearest m j s) → ⊥

  all-kept : Kept (λ s. Unit {0})
  all-kept = record { begins = λ y l. tt; goes = λ s r x k l e. tt }

  pub empty-after : (j : ℕ) → Empty j → (i : ℕ) → j ≤ i → Empty i
  empty-after j b i l s h = bare-after (λ s. Unit {0}) all-kept j (λ s k. b s) i l s tt h

  pub empty-quiet : (j : ℕ) → Empty j → QuietBefore m j → (u : ℕ) → Quiet m u
  empty-quiet j b quiet u = bare-quiet (λ s. Unit {0}) all-kept j (λ s k. b s) quiet u

  -- the same of states below a bound that no start and no step leaves
  abbrev pub EmptyBelow : ℕ → ℕ → Type 0
  EmptyBelow n j = (s : ℕ) → s < n → T (nearest m j s) → ⊥

  module _ (n : ℕ) (inside : Inside m n) where
    below-kept : Kept (λ s. s < n)
    below-kept = record { begins = inside.begins; goes = inside.goes }

    pub empty-below-after : (j : ℕ) → EmptyBelow n j → (i : ℕ) → j ≤ i → EmptyBelow n i
    empty-below-after j b i l = bare-after (λ s. s < n) below-kept j b i l

    pub empty-below-quiet : (j : ℕ) → EmptyBelow n j → QuietBefore m j → (u : ℕ) → Quiet m u
    empty-below-quiet j b quiet u = bare-quiet (λ s. s < n) below-kept j b quiet u

    -- the set of distance j + 1 by tests that agree with the sets before it on states below the bound
    pub nearest-back : (j : ℕ) (p q : ℕ → Bool) → ((s : ℕ) → s < n → p s ≡ nearest m j s) → ((s : ℕ) → s < n → q s ≡ met m j s)
        → (s : ℕ) → s < n → nearest m (suc j) s ≡ (preimage m p s && not (q s))
    nearest-back j p q a b s l =
        nearest-suc m j s
        ∙ ap₂ (λ (u v : Bool). u && not v)
        (preimage-same m (nearest m j) p s (λ r x k e. sym (a x (inside.goes s r x l k e)))) (sym (b s l))

    -- every state that is reached is below the bound
    pub reached-below : (f y s : ℕ) → y < prefixes m f → state_after m f y ≡ some s → s < n
    unfolding prefixes state_after
    reached-below zero y s l e = let q : m.start y ≡ s = cc in omega (arith, inside.begins y l)
    reached-below (suc f) y s l e =
        let a = came m f y s e in
        let b = reached-below f (y / m.rows) a.0 (prefix-fits m f y l) a.1 in
        inside.goes a.0 (y % m.rows) s b (mod-lt y (some-row f y l)) a.2
