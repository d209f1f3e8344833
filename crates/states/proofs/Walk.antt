-- The walk along a bucket. Assumes nothing.
use mathlib.Core.Path.{◌≡◌, refl, sym, ap, ◌∙◌}
use mathlib.Core.Bool.{Bool, true, false, ◌||◌}
use mathlib.Core.List.{List, [], ◌∷◌}
use Prim.Native.Nat.{ℕ, zero, suc, ◌+◌, ◌-◌, ◌*◌, ◌≤◌, ◌<◌}
use native.Mathlib.Decide.{ℕ_discrete, dec_lt}
use native.Mathlib.Omega.{arith}
use borrow.Author.Tests.{eqb-true, eq-eqb, ne_eqb}
use lib.Dec.{eqb}
use lib.ListN.{length, get_or}
use Rattle.nodes.specs.Last.{last_before}
use Rattle.nodes.proofs.Last.{last-le, last-passes, last-after}
use Rattle.machine.specs.Layers.{Entry, state_of, met}
use Rattle.states.specs.declared.Table.{Table}
use Rattle.states.specs.Number.{number_at, bucket_of}
use Rattle.states.specs.Table.{field, in_bucket, Stored}
use Rattle.states.proofs.Numbers.{bucket-small}

-- a test that fails
pub differs : (a b : ℕ) → eqb a b ≡ false → a ≡ b → ⊥
differs a b f e = let t = eq-eqb a b e in let z : ◌≡◌ {A = ℕ} 0 1 = cc in omega arith

-- the bucket of a state
abbrev pub bucket_in : Table → ℕ → ℕ
bucket_in p s = bucket_of p.width p.buckets s

pub in-bucket : (p : Table) (es : List Entry) (h i : ℕ) → in_bucket p es h i ≡ true → bucket_in p (state_of es i) ≡ h
unfolding in_bucket
in-bucket p es h i e = eqb-true (bucket_in p (state_of es i)) h e

pub bucket-in : (p : Table) (es : List Entry) (h i : ℕ) → bucket_in p (state_of es i) ≡ h → in_bucket p es h i ≡ true
unfolding in_bucket
bucket-in p es h i e = eq-eqb (bucket_in p (state_of es i)) h e

pub bucket-out : (p : Table) (es : List Entry) (h i : ℕ) → (bucket_in p (state_of es i) ≡ h → ⊥) → in_bucket p es h i ≡ false
unfolding in_bucket
bucket-out p es h i e = ne_eqb (bucket_in p (state_of es i)) h e

-- a state that stands nowhere was not met, one that stands somewhere was
pub met-none : (s : ℕ) (es : List Entry) → ((i : ℕ) → i < length es → state_of es i ≡ s → ⊥) → met s es ≡ false
unfolding met
met-none s [] h = refl
met-none s (e ∷ es) h =
    let a = ne_eqb e.state s (h 0 (omega arith)) in
    ap (λ (b : Bool). b || met s es) a ∙ met-none s es (λ i l. h (suc i) (omega arith))

pub met_some : (s : ℕ) (es : List Entry) (i : ℕ) → i < length es → state_of es i ≡ s → met s es ≡ true
unfolding met
met_some s [] i l e = absurd (omega arith)
met_some s (x ∷ es) zero l e = ap (λ (b : Bool). b || met s es) (eq-eqb x.state s e)
met_some s (x ∷ es) (suc i) l e = go (eqb x.state s) (met_some s es i (omega arith) e)
  where
    go : (b : Bool) → met s es ≡ true → (b || met s es) ≡ true
    go true h = refl
    go false h = h

-- no entry from next on has state s, and next is 0 or one more than an entry in its bucket
pub record Walk (p : Table) (es : List Entry) (s next : ℕ) : Type 0 where
  pub bound : next ≤ length es
  pub bucket : (k : ℕ) → next ≡ k + 1 → bucket_in p (state_of es k) ≡ bucket_in p s
  pub after : (i : ℕ) → next ≤ i → i < length es → state_of es i ≡ s → ⊥

module _ (p : Table) (es : List Entry) (s : ℕ) where
  -- the last entry of the bucket below m, where none from m on has the state
  from : (m next : ℕ) → m ≤ length es → ((i : ℕ) → m ≤ i → i < length es → state_of es i ≡ s → ⊥)
      → next ≡ last_before (in_bucket p es (bucket_in p s)) m → Walk p es s next
  from m next l a e =
      let b = in_bucket p es (bucket_in p s) in
      record {
        bound = omega (arith, last-le b m);
        bucket = λ k q. in-bucket p es (bucket_in p s) k (last-passes b m k (sym e ∙ q));
        after = λ i il ih q. elim (dec_lt i m) [
          | yes d ↦
              let n = last-after b m i (omega arith) d in
              let y = bucket-in p es (bucket_in p s) i (ap (bucket_in p) q) in
              let z : ◌≡◌ {A = ℕ} 0 1 = cc in
              omega arith
          | no d ↦ a i (omega arith) ih q
        ];
      }

  module _ {records : List ℕ} (t : Stored p records es) where
    pub walk_start : (h next : ℕ) → h ≡ bucket_in p s → next ≡ get_or records ((p.width + 4) * h) 0 → Walk p es s next
    walk_start h next e q =
        from (length es) next (omega arith) (λ i a b. absurd (omega arith))
        (q ∙ t.linked.firsts h (omega (arith, bucket-small p.width p.buckets s t.buckets.some))
        ∙ ap (λ (x : ℕ). last_before (in_bucket p es x) (length es)) e)

    -- the entry at hand has another state, and the next one is taken
    pub walk_more : (next k after : ℕ) → next ≡ k + 1 → Walk p es s next
        → (number_at records ((p.width + 4) * k + 4) p.width ≡ s → ⊥) → after ≡ field p.width records k 1 → Walk p es s after
    walk_more next k after e w n q =
        from k after (omega (arith, w.bound))
        (λ i a b y. elim (ℕ_discrete i k) [
          | yes d ↦ n (t.held.states k (omega (arith, w.bound)) ∙ ap (state_of es) (sym d) ∙ y)
          | no d ↦ w.after i (omega arith) b y
        ])
        (q ∙ t.linked.links k (omega (arith, w.bound)) ∙ ap (λ (x : ℕ). last_before (in_bucket p es x) k) (w.bucket k e))

    pub walk-less : (next k after : ℕ) → next ≡ k + 1 → Walk p es s next → after ≡ field p.width records k 1 → after < next
    walk-less next k after e w q =
        omega (arith, w.bound, t.linked.links k (omega (arith, w.bound)), last-le (in_bucket p es (bucket_in p (state_of es k))) k)

    pub walk-found : (next k : ℕ) → next ≡ k + 1 → Walk p es s next → number_at records ((p.width + 4) * k + 4) p.width ≡ s
        → true ≡ met s es
    walk-found next k e w q =
        sym (met_some s es k (omega (arith, w.bound)) (sym (t.held.states k (omega (arith, w.bound))) ∙ q))

    pub walk_end : (next : ℕ) → next ≡ 0 → Walk p es s next → false ≡ met s es
    walk_end next e w = sym (met-none s es (λ i l. w.after i (omega arith) l))
