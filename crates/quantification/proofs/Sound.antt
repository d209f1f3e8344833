-- A quantification is true exactly where the edge is true for some values of the variables from the level on, whatever the number of turns;
-- the state stays good and nodes are only added. Assumes nothing.
use mathlib.Core.Path.{◌≡◌, refl, sym, ap, ◌∙◌, subst}
use mathlib.Core.Bool.{Bool, true, false, cond}
use mathlib.Core.List.{List}
use mathlib.Core.Option.{none, some}
use Prim.Native.Nat.{ℕ, zero, suc, ◌+◌, ◌/◌, ◌≤◌, ◌<◌}
use native.Mathlib.Omega.{arith}
use borrow.Author.Tests.{ltb-true, ltb-false, leb-true, leb-false}
use lib.Dec.{ltb, leb}
use lib.ListN.{length}
use Rattle.diagrams.specs.declared.Vertex.{Vertex}
use Rattle.diagrams.specs.Words.{node_at, flip}
use Rattle.diagrams.specs.States.{State, outcome, and_then, looked_up, finished}
use Rattle.diagrams.specs.Meaning.{Assignment, value, In, Built, Branch, Possible, Shadow, Terms, shadow, Good, no_edge, is-edge, Right}
use Rattle.diagrams.proofs.Values.{value-false, value-true, front-more, front-in}
use Rattle.diagrams.proofs.Sound.{right-here, right-then, right-if, right-else, shadow-front, entry-shadow, looked_up-right}
use Rattle.diagrams.proofs.Sound.{finished-right, Cofactors, edge-cofactors, cofactors-front}
use Rattle.quantification.specs.Quantification.{Way, or_plain, from_halves, turn, no_turn, exists_within, exists}
use Rattle.quantification.proofs.Reach.{reach}

-- ---- in one diagram

constant-same : (ns : List Vertex) → Built ns → (e : ℕ) → e < 2 → (x y : Assignment) → value ns x e ≡ value ns y e
constant-same ns b zero l x y = value-false ns b x ∙ sym (value-false ns b y)
constant-same ns b (suc zero) l x y = value-true ns b x ∙ sym (value-true ns b y)
constant-same ns b (suc (suc e)) l x y = absurd (omega arith)

-- a constant is possible where it is true
of-constant : {level : ℕ} (ns : List Vertex) → Built ns → (e : ℕ) → e < 2 → In ns e → Shadow level e ns e
of-constant ns b e l i =
    record {
      e-in = i;
      r-in = i;
      sound = λ x h. record { there = x; agrees = λ v u. refl; holds = h };
      complete = λ x w. constant-same ns b e l x w.there ∙ w.holds;
    }

-- an edge whose variable is at or past the level is possible everywhere
of-past : {level : ℕ} (ns : List Vertex) → Built ns → (e : ℕ) → 2 ≤ e → In ns e → level ≤ (node_at ns (e / 2)).var → Shadow level e ns 1
of-past ns b e two i l =
    record {
      e-in = i;
      r-in = omega (arith, b.some-node);
      sound = λ x h.
          let w = reach ns b true e two i x in
          record { there = w.there; agrees = λ v u. w.agrees v (omega arith); holds = w.holds };
      complete = λ x w. value-true ns b x;
    }

-- an edge whose variable is before the level, from both halves
module _ {level v e e0 e1 lo hi r : ℕ} {ns : List Vertex} (i : In ns e) (f : Cofactors ns v e e0 e1) (l : Shadow level e0 ns lo)
    (h : Shadow level e1 ns hi) (early : v < level) (b : Branch v lo hi ns r) where
  part : (p : Bool) → Shadow level (cond p e1 e0) ns (cond p hi lo)
  part true = h
  part false = l

  -- by the value of the variable
  along : (x : Assignment) (p : Bool) → x v ≡ p → value ns x e ≡ value ns x (cond p e1 e0)
  along x true q = f.same x ∙ ap (λ (t : Bool). cond t (value ns x e1) (value ns x e0)) q
  along x false q = f.same x ∙ ap (λ (t : Bool). cond t (value ns x e1) (value ns x e0)) q

  made-along : (x : Assignment) (p : Bool) → x v ≡ p → value ns x r ≡ value ns x (cond p hi lo)
  made-along x true q = b.same x ∙ ap (λ (t : Bool). cond t (value ns x hi) (value ns x lo)) q
  made-along x false q = b.same x ∙ ap (λ (t : Bool). cond t (value ns x hi) (value ns x lo)) q

  of-halves : Shadow level e ns r
  of-halves =
      record {
        e-in = i;
        r-in = b.r-in;
        sound = λ x t.
            let w = (part (x v)).sound x (sym (made-along x (x v) refl) ∙ t) in
            record { there = w.there; agrees = w.agrees; holds = along w.there (x v) (w.agrees v early) ∙ w.holds };
        complete = λ x w.
            made-along x (x v) refl
            ∙ (part (x v)).complete x
            (record { there = w.there; agrees = w.agrees; holds = sym (along w.there (x v) (w.agrees v early)) ∙ w.holds });
      }

-- ---- the steps

module _ (terms : Terms) where
  -- a way that is right for every edge
  abbrev RightWay : Way → Type 0
  RightWay way = (s : State) → Good terms s → (e : ℕ) → In s.nodes e → Right terms s (Shadow terms.level e) (way s e)

  plain-right : (way : Way)
      → ((s : State) → Good terms s → (e : ℕ) → 2 ≤ e → In s.nodes e → (node_at s.nodes (e / 2)).var < terms.level
      → Right terms s (Shadow terms.level e) (way s e))
      → RightWay (or_plain terms.level way)
  unfolding or_plain
  plain-right way next s good e i =
      let ns = s.nodes in
      let v = (node_at ns (e / 2)).var in
      right-if (ltb e 2) _ _
      (λ l. right-here good (some e) (is-edge (of-constant ns good.built e (ltb-true e 2 l) i)))
      (λ l.
      right-if (leb terms.level v) _ _
      (λ q. right-here good (some 1) (is-edge (of-past ns good.built e (ltb-false e 2 l) i (leb-true terms.level v q))))
      (λ q. next s good e (ltb-false e 2 l) i (leb-false terms.level v q)))

  module _ (rec : Way) (way : RightWay rec) where
    halves-right : (s : State) → Good terms s → (e : ℕ) → In s.nodes e → (n : Vertex) → n ≡ node_at s.nodes (e / 2)
        → n.var < terms.level → Right terms s (Shadow terms.level e) (from_halves rec n e s)
    unfolding from_halves
    halves-right s good e i n en early =
        let e0 = flip n.lo e in
        let e1 = flip n.hi e in
        let f = edge-cofactors s.nodes good.built e i n en in
        let o₁ = rec s e0 in
        let r₁ = way s good e0 f.lo-in in
        let t₁ = r₁.grows in
        right-then o₁ (λ t lo. and_then (rec t e1) (λ u hi. finished u n.var lo hi e 0 1)) r₁
        (λ lo l.
        let o₂ = rec o₁.state e1 in
        let r₂ = way o₁.state r₁.good e1 (front-in t₁ e1 f.hi-in) in
        let t₂ = r₂.grows in
        right-then o₂ (λ u hi. finished u n.var lo hi e 0 1) r₂
        (λ hi h.
        let l₂ = shadow-front t₂ l in
        finished-right terms o₂.state r₂.good n.var lo hi e 0 1 l₂.r-in h.r-in (Shadow terms.level e)
        (λ ms t r b.
        let u = front-more t₁ (front-more t₂ t) in
        of-halves (front-in u e i) (cofactors-front u i f) (shadow-front t l₂) (shadow-front t h) early b)
        (λ ms r w. shadow refl refl w)))

    turn-right : (s : State) → Good terms s → (e : ℕ) → 2 ≤ e → In s.nodes e → (node_at s.nodes (e / 2)).var < terms.level
        → Right terms s (Shadow terms.level e) (turn rec s e)
    unfolding turn
    turn-right s good e two i early =
        let ns = s.nodes in
        let n = node_at ns (e / 2) in
        right-else (looked_up s e 0 1) (from_halves rec n e)
        (looked_up-right terms s good e 0 1 (Shadow terms.level e ns) (λ r d. entry-shadow (λ q. omega arith) d))
        (λ t g q.
        halves-right t g e (omega (arith, ap length q)) n (ap (λ (ms : List Vertex). node_at ms (e / 2)) (sym q)) early)

  within-right : (n : ℕ) → RightWay (exists_within terms.level n)
  unfolding exists_within
  within-right zero = plain-right no_turn (λ s good e two i early. right-here good none no_edge)
  within-right (suc n) = plain-right (turn (exists_within terms.level n)) (turn-right (exists_within terms.level n) (within-right n))

-- the quantification from the level of the terms on
pub exists-right : (terms : Terms) (level : ℕ) → terms.level ≡ level → (s : State) → Good terms s → (e : ℕ) → In s.nodes e
    → Right terms s (Shadow level e) (exists level s e)
unfolding exists
exists-right terms level q s good e i =
    subst (λ (l : ℕ). Right terms s (Shadow l e) (exists_within l 1280 s e)) q (within-right terms 1280 s good e i)
