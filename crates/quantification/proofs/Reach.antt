-- Every edge that is not constant takes both values: its variable stands above those of its two edges, and these differ. So it takes each
-- value whatever the variables before its own are. Assumes nothing.
use mathlib.Core.Path.{◌≡◌, refl, sym, ap, ◌∙◌, subst}
use mathlib.Core.Bool.{Bool, true, false, not, cond}
use mathlib.Core.List.{List}
use Prim.Native.Nat.{ℕ, zero, suc, ◌+◌, ◌/◌, ◌≤◌, ◌<◌}
use native.Mathlib.Omega.{arith}
use borrow.Author.Tests.{eq-eqb, ne_eqb}
use lib.Dec.{eqb}
use Rattle.diagrams.specs.declared.Vertex.{Vertex}
use Rattle.diagrams.specs.Words.{node_at, flip}
use Rattle.diagrams.specs.Meaning.{Assignment, value, In, Above, Built, Agree}
use Rattle.diagrams.proofs.Values.{flip_is, flip-node, value-false, value-true}
use Rattle.diagrams.proofs.Sound.{Cofactors, edge-cofactors}

-- e has a value for some assignment that agrees with x before a level
pub record Reached (ns : List Vertex) (want : Bool) (e level : ℕ) (x : Assignment) : Type 0 where
  pub there : Assignment
  pub agrees : Agree level x there
  pub holds : value ns there e ≡ want

-- x with the value p for variable v
with_value : Assignment → ℕ → Bool → Assignment
with_value x v p w = cond (eqb w v) p (x w)

with-same : (x : Assignment) (v : ℕ) (p : Bool) → with_value x v p v ≡ p
unfolding with_value
with-same x v p = rw (eq-eqb v v refl)

with-before : (x : Assignment) (v : ℕ) (p : Bool) (w : ℕ) → w < v → with_value x v p w ≡ x w
unfolding with_value
with-before x v p w l = rw (ne_eqb w v (λ q. omega arith))

module _ (ns : List Vertex) (b : Built ns) (want : Bool) where
  -- an edge below variable v: the constant that is not wanted, or the value is reached whatever the variables up to v are
  data Side (v c : ℕ) : Type 0 where
    other : c ≡ cond want 0 1 → Side v c
    reaches : ((x : Assignment) → Reached ns want c (v + 1) x) → Side v c

  here : (v c : ℕ) → ((x : Assignment) → value ns x c ≡ want) → Side v c
  here v c h = reaches (λ x. record { there = x; agrees = λ w l. refl; holds = h x })

  side-of : (v c : ℕ) → Above ns v c → (2 ≤ c → (x : Assignment) → Reached ns want c (node_at ns (c / 2)).var x) → Side v c
  side-of v zero h r = go want refl
    where
      go : (p : Bool) → want ≡ p → Side v 0
      go true q = other (sym (ap (λ (t : Bool). cond t 0 1) q))
      go false q = here v 0 (λ x. value-false ns b x ∙ sym q)
  side-of v (suc zero) h r = go want refl
    where
      go : (p : Bool) → want ≡ p → Side v 1
      go true q = here v 1 (λ x. value-true ns b x ∙ sym q)
      go false q = other (sym (ap (λ (t : Bool). cond t 0 1) q))
  side-of v (suc (suc c)) h r =
      reaches
      (λ x. let w = r (omega arith) x in record { there = w.there; agrees = λ u l. w.agrees u (omega arith); holds = w.holds })

  -- along one of the two edges
  from-side : {v e lo hi : ℕ} → Cofactors ns v e lo hi → (p : Bool) (x : Assignment)
      → Reached ns want (cond p hi lo) (v + 1) (with_value x v p) → Reached ns want e v x
  from-side {v} {e} {lo} {hi} f p x r =
      record {
        there = r.there;
        agrees = λ w l. r.agrees w (omega arith) ∙ with-before x v p w l;
        holds =
            f.same r.there
            ∙ along p (r.there v) (r.agrees v (omega arith) ∙ with-same x v p) ∙ r.holds;
      }
    where
      along : (p q : Bool) → q ≡ p → cond q (value ns r.there hi) (value ns r.there lo) ≡ value ns r.there (cond p hi lo)
      along true q i = ap (λ (t : Bool). cond t (value ns r.there hi) (value ns r.there lo)) i
      along false q i = ap (λ (t : Bool). cond t (value ns r.there hi) (value ns r.there lo)) i

  choose : {v e lo hi : ℕ} → Cofactors ns v e lo hi → (lo ≡ hi → ⊥) → Side v lo → Side v hi → (x : Assignment) → Reached ns want e v x
  choose {v} f differ (reaches r) k x = from-side f false x (r (with_value x v false))
  choose {v} f differ (other q) (reaches r) x = from-side f true x (r (with_value x v true))
  choose f differ (other q) (other p) x = absurd (differ (q ∙ sym p))

  -- by induction on a bound of the node's number
  below : (n e : ℕ) → e / 2 < n → 2 ≤ e → In ns e → (x : Assignment) → Reached ns want e (node_at ns (e / 2)).var x
  below zero e l two i x = absurd (omega arith)
  below (suc n) e l two i x = go (below n)
    where
      v : Vertex
      v = node_at ns (e / 2)

      go : ((c : ℕ) → c / 2 < n → 2 ≤ c → In ns c → (y : Assignment) → Reached ns want c (node_at ns (c / 2)).var y)
          → Reached ns want e v.var x
      go rec =
          let f = edge-cofactors ns b e i v refl in
          let lo_small = b.lo (e / 2) (omega arith) i in
          let hi_small = b.hi (e / 2) (omega arith) i in
          let zl = flip_is v.lo e in
          let zh = flip_is v.hi e in
          choose f (λ q. b.apart (e / 2) (omega arith) i (omega arith))
          (side-of v.var (flip v.lo e) (above-flip v.lo (b.lo-above (e / 2) (omega arith) i))
          (λ t y. rec (flip v.lo e) (omega arith) t f.lo-in y))
          (side-of v.var (flip v.hi e) (above-flip v.hi (b.hi-above (e / 2) (omega arith) i))
          (λ t y. rec (flip v.hi e) (omega arith) t f.hi-in y)) x
        where
          above-flip : (d : ℕ) → Above ns v.var d → Above ns v.var (flip d e)
          above-flip d h = subst (λ (k : ℕ). v.var < (node_at ns k).var) (sym (flip-node d e)) h

  -- an edge that is not constant has the value that is wanted, for some assignment that agrees with x before its variable
  pub reach : (e : ℕ) → 2 ≤ e → In ns e → (x : Assignment) → Reached ns want e (node_at ns (e / 2)).var x
  reach e two i x = below (e / 2 + 1) e (omega arith) two i x
