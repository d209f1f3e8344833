-- The conjunction that is made is true exactly where both operands are, for any number of turns; nodes are only added, and every entry of
-- the cache stays right. Assumes nothing.
use mathlib.Core.Path.{◌≡◌, refl, sym, ap, ap₂, ◌∙◌, subst}
use mathlib.Core.Bool.{Bool, true, false, not, cond, ◌&&◌, ◌||◌}
use mathlib.Core.List.{List}
use mathlib.Core.Option.{none, some}
use Prim.Native.Nat.{ℕ, zero, suc, ◌+◌, ◌*◌, ◌/◌, ◌%◌, ◌≤◌, ◌<◌}
use native.Mathlib.Omega.{arith}
use borrow.Author.Tests.{ltb-true, ltb-false, eqb-true, eqb-false}
use lib.Dec.{ltb, eqb}
use lib.ListN.{length}
use Rattle.diagrams.specs.declared.Vertex.{Vertex}
use Rattle.diagrams.specs.Words.{node_at, flip}
use Rattle.diagrams.specs.States.{State, Outcome, outcome, and_then, finished}
use Rattle.diagrams.specs.Meaning.{Assignment, value, In, Built, Front, if_else, Branch, Both, Either, Terms, both, Good, no_edge, is-edge, Right}
use Rattle.diagrams.proofs.Values.{flip_is, flip-in, value-flip, value_not, value-false, value-true, same-either, front-more, front-in}
use Rattle.diagrams.proofs.Sound.{right-as, right-here, right-then, right-if, both-front, entry-both, Cofactors, edge-cofactors, cofactors-front, RightSeen, seen_if, seen_here, right-else, looked_up-right, finished-right}
use Rattle.conjunction.specs.declared.Split.{Split}
use Rattle.conjunction.specs.Conjunction.{smaller, larger, low, high, split_at, split_of, known, Way, from_cofactors, turn, or_known, in_order, no_turn, both_within}
use Rattle.conjunction.specs.Conjunction as C

and_same : (x : Bool) → x ≡ (x && x)
and_same true = refl
and_same false = refl

and-not : (x : Bool) → false ≡ (x && not x)
and-not true = refl
and-not false = refl

and-swap : (x y : Bool) → (x && y) ≡ (y && x)
and-swap true true = refl
and-swap true false = refl
and-swap false true = refl
and-swap false false = refl

-- ---- what is known

module _ (terms : Terms) (s : State) (good : Good terms s) (f g : ℕ) (f-in : In s.nodes f) (g-in : In s.nodes g)
    (differ : f ≡ g → ⊥) where
  known-right : RightSeen terms s (Both f g s.nodes) (known s f g)
  unfolding known
  known-right =
      let ns = s.nodes in
      let v = value ns in
      let zero_in : In ns 0 = omega (arith, good.built.some-node) in
      seen_if (eqb f 1) _ _
      (λ e.
      seen_here good g
      (record {
        f-in = f-in;
        g-in = g-in;
        r-in = g-in;
        same = λ x. sym (ap (λ (b : Bool). b && v x g) (ap (v x) (eqb-true f 1 e) ∙ value-true ns good.built x));
      }))
      (λ e.
      seen_if (eqb f 0) _ _
      (λ p.
      seen_here good 0
      (record {
        f-in = f-in;
        g-in = g-in;
        r-in = zero_in;
        same = λ x. value-false ns good.built x ∙ sym (ap (λ (b : Bool). b && v x g)
            (ap (v x) (eqb-true f 0 p) ∙ value-false ns good.built x));
      }))
      (λ p.
      seen_if (eqb (f / 2) (g / 2)) _ _
      (λ q.
      let z : flip f 1 ≡ g = let n : (f ≡ g → ⊥) = differ in omega (arith, flip_is f 1, eqb-true (f / 2) (g / 2) q) in
      seen_here good 0
      (record {
        f-in = f-in;
        g-in = g-in;
        r-in = zero_in;
        same = λ x.
            value-false ns good.built x ∙ and-not (v x f) ∙ ap (λ (b : Bool). v x f && b) (sym (value_not ns x f) ∙ ap (v x) z);
      }))
      (λ q. looked_up-right terms s good f g 0 (Both f g ns) (λ r b. entry-both (eqb-false f 0 p) b))))

-- ---- the cofactors of an operand

cofactors-at : (ns : List Vertex) → Built ns → (v e : ℕ) → In ns e
    → Cofactors ns v e (low (node_at ns (e / 2)) v e) (high (node_at ns (e / 2)) v e)
unfolding low high
cofactors-at ns b v e h = go (eqb n.var v) refl
  where
    n : Vertex
    n = node_at ns (e / 2)

    go : (t : Bool) → eqb n.var v ≡ t → Cofactors ns v e (cond t (flip n.lo e) e) (cond t (flip n.hi e) e)
    go true q = subst (λ (u : ℕ). Cofactors ns u e (flip n.lo e) (flip n.hi e)) (eqb-true n.var v q)
        (edge-cofactors ns b e h n refl)
    go false q = record { lo-in = h; hi-in = h; same = λ x. sym (same-either (x v) (value ns x e)) }

and_parts : (p x y u w : Bool) → cond p (x && u) (y && w) ≡ (cond p x y && cond p u w)
and_parts true x y u w = refl
and_parts false x y u w = refl

-- the conjunction is made of those of the cofactors
both_of : (ns : List Vertex) (v f g f0 f1 g0 g1 lo hi r : ℕ) → In ns f → In ns g → Cofactors ns v f f0 f1 → Cofactors ns v g g0 g1
    → Both f0 g0 ns lo → Both f1 g1 ns hi → Branch v lo hi ns r → Both f g ns r
both_of ns v f g f0 f1 g0 g1 lo hi r f-in g-in p q l h b =
    record {
      f-in = f-in;
      g-in = g-in;
      r-in = b.r-in;
      same = λ x.
          b.same x ∙ ap₂ (λ (y z : Bool). cond (x v) y z) (h.same x) (l.same x)
          ∙ and_parts (x v) (value ns x f1) (value ns x f0) (value ns x g1) (value ns x g0)
          ∙ ap₂ (λ (y z : Bool). y && z) (sym (p.same x)) (sym (q.same x));
    }

-- ---- ways to conjoin that are right

abbrev pub RightWay : Terms → Way → Type 0
RightWay terms way = (s : State) → Good terms s → (f g : ℕ) → In s.nodes f → In s.nodes g → Right terms s (Both f g) (way s f g)

-- of different operands
abbrev RightPair : Terms → Way → Type 0
RightPair terms way =
    (s : State) → Good terms s → (f g : ℕ) → (f ≡ g → ⊥) → In s.nodes f → In s.nodes g → Right terms s (Both f g) (way s f g)

module _ (terms : Terms) (rec : Way) (way : RightWay terms rec) (s : State) (good : Good terms s) (f g : ℕ)
    (f-in : In s.nodes f) (g-in : In s.nodes g) where
  from-cofactors-right : (x : Split) → Cofactors s.nodes x.var f x.f0 x.f1 → Cofactors s.nodes x.var g x.g0 x.g1
      → Right terms s (Both f g) (from_cofactors rec s f g x)
  unfolding from_cofactors
  from-cofactors-right x p q =
      let o₁ = rec s x.f0 x.g0 in
      let r₁ = way s good x.f0 x.g0 p.lo-in q.lo-in in
      let t₁ = r₁.grows in
      right-then o₁ (λ t lo. and_then (rec t x.f1 x.g1) (λ u hi. finished u x.var lo hi f g 0)) r₁
      (λ lo l.
      let o₂ = rec o₁.state x.f1 x.g1 in
      let r₂ = way o₁.state r₁.good x.f1 x.g1 (front-in t₁ x.f1 p.hi-in) (front-in t₁ x.g1 q.hi-in) in
      let t₂ = r₂.grows in
      let t : Front s.nodes o₂.state.nodes = front-more t₁ t₂ in
      right-then o₂ (λ u hi. finished u x.var lo hi f g 0) r₂
      (λ hi h.
      let l₂ = both-front t₂ l in
      finished-right terms o₂.state r₂.good x.var lo hi f g 0 l₂.r-in h.r-in (Both f g)
      (λ ms u r b.
      let w : Front s.nodes ms = front-more t u in
      both_of ms x.var f g x.f0 x.f1 x.g0 x.g1 lo hi r (front-in w f f-in) (front-in w g g-in)
      (cofactors-front w f-in p) (cofactors-front w g-in q) (both-front u l₂) (both-front u h) b)
      (λ ms r b. both refl b)))

turn-right : (terms : Terms) (rec : Way) → RightWay terms rec → RightWay terms (turn rec)
unfolding turn split_of
turn-right terms rec way s good f g f-in g-in =
    let ns = s.nodes in
    let p = node_at ns (f / 2) in
    let q = node_at ns (g / 2) in
    let v = smaller p.var q.var in
    from-cofactors-right terms rec way s good f g f-in g-in (split_at v p q f g) (cofactors-at ns good.built v f f-in)
    (cofactors-at ns good.built v g g-in)

or-known-right : (terms : Terms) (next : Way) → RightWay terms next → RightPair terms (or_known next)
unfolding or_known
or-known-right terms next way s good f g differ f-in g-in =
    right-else (known s f g) (λ t. next t f g) (known-right terms s good f g f-in g-in differ)
    (λ t k e.
    way t k f g (subst (λ (ns : List Vertex). In ns f) (sym e) f-in) (subst (λ (ns : List Vertex). In ns g) (sym e) g-in))

both-swap : {f g : ℕ} {ns : List Vertex} {r : ℕ} → Both f g ns r → Both g f ns r
both-swap {f} {g} {ns} b =
    record {
      f-in = b.g-in;
      g-in = b.f-in;
      r-in = b.r-in;
      same = λ x. b.same x ∙ and-swap (value ns x f) (value ns x g);
    }

in-order-right : (terms : Terms) (way : Way) → RightPair terms way → RightWay terms (in_order way)
unfolding in_order smaller larger
in-order-right terms way r s good a b a_in b-in =
    right-if (eqb a b) _ _
    (λ e.
    right-here good (some a)
    (is-edge
    (record {
      f-in = a_in;
      g-in = b-in;
      r-in = a_in;
      same = λ x. and_same (value s.nodes x a) ∙ ap (λ (d : ℕ). value s.nodes x a && value s.nodes x d) (eqb-true a b e);
    })))
    (λ e. go (ltb a b) (eqb-false a b e))
  where
    go : (t : Bool) → (a ≡ b → ⊥) → Right terms s (Both a b) (way s (cond t a b) (cond t b a))
    go true n = r s good a b n a_in b-in
    go false n = right-as (λ d w. both-swap w) (r s good b a (λ z. n (sym z)) b-in a_in)

pub both-within-right : (terms : Terms) (n : ℕ) → RightWay terms (both_within n)
unfolding both_within
both-within-right terms zero =
    in-order-right terms (or_known no_turn) (or-known-right terms no_turn (λ s good f g i j. right-here good none no_edge))
both-within-right terms (suc n) =
    in-order-right terms (or_known (turn (both_within n)))
    (or-known-right terms (turn (both_within n)) (turn-right terms (both_within n) (both-within-right terms n)))

-- the conjunction of two edges is true exactly where both are
pub both_right : (terms : Terms) → RightWay terms C.both
unfolding C.both
both_right terms s good f g f-in g-in = both-within-right terms 1280 s good f g f-in g-in

not-and : (x y : Bool) → not (not x && not y) ≡ (x || y)
not-and true y = refl
not-and false true = refl
not-and false false = refl

-- the disjunction of two edges is true exactly where one of them is
pub either-right : (terms : Terms) (s : State) → Good terms s → (f g : ℕ) → In s.nodes f → In s.nodes g
    → Right terms s (Either f g) (C.either s f g)
unfolding C.either
either-right terms s good f g f-in g-in =
    let o = C.both s (flip f 1) (flip g 1) in
    let r = both_right terms s good (flip f 1) (flip g 1) (flip-in s.nodes f 1 f-in) (flip-in s.nodes g 1 g-in) in
    let ms = o.state.nodes in
    right-then o (λ t e. outcome t (some (flip e 1))) r
    (λ e b.
    right-here r.good (some (flip e 1))
    (is-edge
    (record {
      f-in = front-in r.grows f f-in;
      g-in = front-in r.grows g g-in;
      r-in = flip-in ms e 1 b.r-in;
      same = λ x.
          value_not ms x e ∙ ap not (b.same x ∙ ap₂ (λ (y z : Bool). y && z) (value_not ms x f) (value_not ms x g))
          ∙ not-and (value ms x f) (value ms x g);
    })))
