-- A substitution has the value of the edge under the values of the vector's edges, whatever the number of turns; the state stays good and
-- nodes are only added. No order is asked of the vector's edges. Assumes nothing.
use mathlib.Core.Path.{◌≡◌, refl, sym, ap, ap₂, ◌∙◌, subst}
use mathlib.Core.Bool.{Bool, true, false, not, cond}
use mathlib.Core.List.{List}
use mathlib.Core.Option.{none, some}
use Prim.Native.Nat.{ℕ, zero, suc, ◌+◌, ◌*◌, ◌/◌, ◌%◌, ◌≤◌, ◌<◌}
use native.Mathlib.Omega.{arith}
use borrow.Author.Tests.{ltb-true, ltb-false}
use lib.Dec.{ltb, eqb}
use lib.ListN.{length, get_or}
use Rattle.diagrams.specs.declared.Vertex.{Vertex}
use Rattle.diagrams.specs.Words.{node_at, flip}
use Rattle.diagrams.specs.States.{State, Outcome, outcome, and_then, looked_up, or_else}
use Rattle.diagrams.specs.Meaning.{Assignment, value, In, Built, Choice, after, Composed, Terms, vector_of, Entry, composed}
use Rattle.diagrams.specs.Meaning.{Good, no_edge, is-edge, Right}
use Rattle.diagrams.proofs.Values.{flip_is, flip-in, signed, value-flip, value-false, value-true, value-node, value-edge}
use Rattle.diagrams.proofs.Values.{lo-in, hi-in, front-more, front-in, front-node}
use Rattle.diagrams.proofs.Sound.{right-as, right-here, right-then, right-if, right-else, composed-front, entry-composed}
use Rattle.diagrams.proofs.Sound.{looked_up-right, remembered-right}
use Rattle.substitution.specs.Substitution.{choice, half, mark_of, finished_choice, Way, from_halves, at_node, turn}
use Rattle.substitution.specs.Substitution.{or_constant, no_turn, substituted_within, substituted}
use Rattle.substitution.proofs.Choices.{choice-right}

-- ---- in one diagram

pub constant-same : (ns : List Vertex) → Built ns → (e : ℕ) → e < 2 → (x y : Assignment) → value ns x e ≡ value ns y e
constant-same ns b zero l x y = value-false ns b x ∙ sym (value-false ns b y)
constant-same ns b (suc zero) l x y = value-true ns b x ∙ sym (value-true ns b y)
constant-same ns b (suc (suc e)) l x y = absurd (omega arith)

-- a constant edge is the test that it is 1
pub constant-value : (ns : List Vertex) → Built ns → (c : ℕ) → c < 2 → (x : Assignment) → value ns x c ≡ eqb c 1
constant-value ns b zero l x = value-false ns b x
constant-value ns b (suc zero) l x = value-true ns b x
constant-value ns b (suc (suc c)) l x = absurd (omega arith)

-- one half has the value of the edge, where the variable has that of the constant
pub half-value : (ns : List Vertex) → Built ns → (e : ℕ) → In ns e → (n : Vertex) → n ≡ node_at ns (e / 2) → (c : ℕ) → c < 2
    → (x : Assignment) → x n.var ≡ eqb c 1 → value ns x (half n c e) ≡ value ns x e
unfolding half
half-value ns b e i n en zero l x q =
    sym (value-edge ns b x e i n en ∙ ap (λ (p : Bool). cond p (value ns x (flip n.hi e)) (value ns x (flip n.lo e))) q)
half-value ns b e i n en (suc zero) l x q =
    sym (value-edge ns b x e i n en ∙ ap (λ (p : Bool). cond p (value ns x (flip n.hi e)) (value ns x (flip n.lo e))) q)
half-value ns b e i n en (suc (suc c)) l x q = absurd (omega arith)

pub half_in : (ns : List Vertex) → Built ns → (e : ℕ) → In ns e → (n : Vertex) → n ≡ node_at ns (e / 2) → (c : ℕ) → In ns (half n c e)
unfolding half
half_in ns b e i n en c = go (eqb c 0)
  where
    go : (p : Bool) → In ns (cond p (flip n.lo e) (flip n.hi e))
    go true = flip-in ns n.lo e (subst (λ (m : Vertex). In ns m.lo) (sym en) (lo-in ns b (e / 2) i))
    go false = flip-in ns n.hi e (subst (λ (m : Vertex). In ns m.hi) (sym en) (hi-in ns b (e / 2) i))

half-composed : {by : List ℕ} {ns : List Vertex} → Built ns → {e r : ℕ} → In ns e → (n : Vertex) → n ≡ node_at ns (e / 2)
    → (c : ℕ) → c ≡ get_or by n.var 0 → c < 2 → Composed by (half n c e) ns r → Composed by e ns r
unfolding after
half-composed {by} {ns} b {e} {r} i n en c ec l w =
    record {
      e-in = i;
      r-in = w.r-in;
      same = λ x.
          w.same x
          ∙ half-value ns b e i n en c l (after ns by x) (ap (value ns x) (sym ec) ∙ constant-value ns b c l x);
    }

signed-twice : (c : ℕ) (v : Bool) → signed c (signed c v) ≡ v
signed-twice c v = go (eqb (c % 2) 0) v
  where
    go : (p v : Bool) → cond p (cond p v (not v)) (not (cond p v (not v))) ≡ v
    go true v = refl
    go false true = refl
    go false false = refl

-- an edge from its result without the complement
composed-flip : {by : List ℕ} {ns : List Vertex} {e r : ℕ} → In ns e → Composed by (flip e e) ns r → Composed by e ns (flip r e)
composed-flip {by} {ns} {e} {r} i w =
    record {
      e-in = i;
      r-in = flip-in ns r e w.r-in;
      same = λ x.
          let y = after ns by x in
          value-flip ns x r e ∙ ap (signed e) (w.same x ∙ value-flip ns y e e) ∙ signed-twice e (value ns y e);
    }

-- an edge that is no complement, from both halves
composed-halves : {by : List ℕ} {ns : List Vertex} → Built ns → {f hi lo r : ℕ} → (k : ℕ) → f ≡ 2 * k → k < length ns → (n : Vertex)
    → n ≡ node_at ns k → (c : ℕ) → c ≡ get_or by n.var 0 → Composed by n.hi ns hi → Composed by n.lo ns lo → Choice c hi lo ns r
    → Composed by f ns r
unfolding after
composed-halves {by} {ns} b {f} {hi} {lo} {r} k ef i n en c ec h l w =
    record {
      e-in = omega arith;
      r-in = w.r-in;
      same = λ x.
          let y = after ns by x in
          w.same x ∙ ap₂ (λ (p q : Bool). cond (value ns x c) p q) (h.same x) (l.same x)
          ∙ ap (λ (d : ℕ). cond (value ns x d) (value ns y n.hi) (value ns y n.lo)) ec
          ∙ ap (λ (m : Vertex). cond (y m.var) (value ns y m.hi) (value ns y m.lo)) en
          ∙ sym (ap (value ns y) ef ∙ value-node ns b y k i);
    }

-- ---- the steps, for the vector of a tag

module _ (terms : Terms) (tag : ℕ) (there : tag < length terms.vectors) (fits : tag < 4294967295) where
  abbrev by : List ℕ
  by = vector_of terms tag

  -- a way that is right for every edge
  abbrev RightWay : Way → Type 0
  RightWay way = (s : State) → Good terms s → (e : ℕ) → In s.nodes e → Right terms s (Composed by e) (way s e)

  mark-is : mark_of tag ≡ tag + 1
  mark-is = omega arith

  constant-right : (way : Way)
      → ((s : State) → Good terms s → (e : ℕ) → 2 ≤ e → In s.nodes e → Right terms s (Composed by e) (way s e))
      → RightWay (or_constant way)
  unfolding or_constant
  constant-right way next s good e i =
      right-if (ltb e 2) _ _
      (λ l.
      right-here good (some e)
      (is-edge
      (record {
        e-in = i;
        r-in = i;
        same = λ x. constant-same s.nodes good.built e (ltb-true e 2 l) x (after s.nodes by x);
      })))
      (λ l. next s good e (ltb-false e 2 l) i)

  module _ (rec : Way) (way : RightWay rec) where
    -- both halves, and the result kept
    halves-right : (s : State) → Good terms s → (k f : ℕ) → f ≡ 2 * k → k < length s.nodes → (n : Vertex) → n ≡ node_at s.nodes k
        → (c : ℕ) → c ≡ get_or by n.var 0 → Right terms s (Composed by f) (from_halves rec tag n c f s)
    unfolding from_halves finished_choice
    halves-right s good k f ef i n en c ec =
        let ns = s.nodes in
        let n-hi : In ns n.hi = subst (λ (m : Vertex). In ns m.hi) (sym en) (hi-in ns good.built k i) in
        let n-lo : In ns n.lo = subst (λ (m : Vertex). In ns m.lo) (sym en) (lo-in ns good.built k i) in
        let o₁ = rec s n.hi in
        let r₁ = way s good n.hi n-hi in
        let t₁ = r₁.grows in
        right-then o₁ (λ t hi. and_then (rec t n.lo) (λ u lo. finished_choice u c hi lo f tag)) r₁
        (λ hi h.
        let o₂ = rec o₁.state n.lo in
        let r₂ = way o₁.state r₁.good n.lo (front-in t₁ n.lo n-lo) in
        let t₂ = r₂.grows in
        right-then o₂ (λ u lo. finished_choice u c hi lo f tag) r₂
        (λ lo l.
        let u = o₂.state in
        let vectors = r₂.good.vectors-in tag in
        let c-in : In u.nodes c = subst (λ (d : ℕ). In u.nodes d) (sym ec) (vectors n.var) in
        let h₂ = composed-front (r₁.good.vectors-in tag) t₂ h in
        let r₃ = choice-right terms u r₂.good c hi lo c-in h₂.r-in l.r-in in
        let t₃ = r₃.grows in
        let t = front-more t₁ (front-more t₂ t₃) in
        remembered-right (choice u c hi lo) f (mark_of tag) 1
        (right-as
        (λ r w.
        composed-halves r₃.good.built k ef (omega (arith, front-in t (2 * k) (omega arith))) n (en ∙ sym (front-node t k i)) c ec
        (composed-front vectors t₃ h₂) (composed-front vectors t₃ l) w)
        r₃)
        (λ ms r w. composed tag refl mark-is there w)))

    turn-right : (s : State) → Good terms s → (e : ℕ) → 2 ≤ e → In s.nodes e → Right terms s (Composed by e) (turn by tag rec s e)
    unfolding turn at_node
    turn-right s good e two i =
        let ns = s.nodes in
        let n = node_at ns (e / 2) in
        let c = get_or by n.var 0 in
        let even = flip e e in
        let z = flip_is e e in
        right-if (ltb c 2) _ _
        (λ l.
        let w = way s good (half n c e) (half_in ns good.built e i n refl c) in
        let t = w.grows in
        right-as
        (λ r d. half-composed w.good.built (front-in t e i) n (sym (front-node t (e / 2) i)) c refl (ltb-true c 2 l) d)
        w)
        (λ l.
        let o = or_else (looked_up s even (mark_of tag) 1) (from_halves rec tag n c even) in
        let look = looked_up-right terms s good even (mark_of tag) 1 (Composed by even ns)
        (λ r d. entry-composed tag (λ q. omega arith) (subst (λ (m : ℕ). Entry terms ns even m 1 r) mark-is d)) in
        let w = right-else (looked_up s even (mark_of tag) 1) (from_halves rec tag n c even) look
        (λ t g q.
        halves-right t g (e / 2) even (omega arith) (omega (arith, ap length q)) n
        (ap (λ (ms : List Vertex). node_at ms (e / 2)) (sym q)) c refl) in
        right-then o (λ t r. outcome t (some (flip r e))) w
        (λ r d. right-here w.good (some (flip r e)) (is-edge (composed-flip (front-in w.grows e i) d))))

  within-right : (n : ℕ) → RightWay (substituted_within by tag n)
  unfolding substituted_within
  within-right zero = constant-right no_turn (λ s good e l i. right-here good none no_edge)
  within-right (suc n) =
      let rec = substituted_within by tag n in constant-right (turn by tag rec) (turn-right rec (within-right n))

-- the substitution by a vector that has a tag
pub substituted-right : (terms : Terms) (tag : ℕ) → tag < length terms.vectors → tag < 4294967295
    → (by : List ℕ) → vector_of terms tag ≡ by → (s : State) → Good terms s → (e : ℕ) → In s.nodes e
    → Right terms s (Composed by e) (substituted by tag s e)
unfolding substituted
substituted-right terms tag there fits by q s good e i =
    subst (λ (l : List ℕ). Right terms s (Composed l e) (substituted_within l tag 1280 s e)) q
    (within-right terms tag there fits 1280 s good e i)
