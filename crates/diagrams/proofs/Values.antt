-- Values of edges: a longer diagram keeps them, the complement, a node from its two edges. Assumes nothing.
use mathlib.Core.Path.{◌≡◌, refl, sym, ap, ap₂, ◌∙◌}
use mathlib.Core.Bool.{Bool, true, false, not, cond}
use mathlib.Core.List.{List, [], ◌∷◌, ◌++◌, append_assoc, append-nil}
use Prim.Native.Nat.{ℕ, zero, suc, ◌+◌, ◌-◌, ◌*◌, ◌/◌, ◌%◌, ◌≤◌, ◌<◌}
use native.Mathlib.Omega.{arith}
use borrow.Author.Tests.{eq-eqb, ne_eqb, eqb-true, eqb-false}
use lib.Dec.{eqb}
use lib.ListN.{length, get_or, take, drop, length-append, get_or-append}
use lib.Seq.{get_or_at, split_at, length-take-le}
use Rattle.diagrams.specs.declared.Vertex.{Vertex}
use Rattle.diagrams.specs.Words.{no_vertex, false_vertex, node_at, flip}
use Rattle.diagrams.specs.Meaning.{Assignment, edge_in, grown, values, value, In, Above, Built, Front, if_else}

-- ---- values of nodes

length-grown : (x : Assignment) (vs : List Bool) (ns : List Vertex) → length (grown x vs ns) ≡ length vs + length ns
unfolding grown
length-grown x vs [] = omega arith
length-grown x vs (n ∷ ns) =
    length-grown x (vs ++ (cond (x n.var) (edge_in vs n.hi) (edge_in vs n.lo) ∷ [])) ns ∙ simp length-append (omega arith)

grown-append : (x : Assignment) (vs : List Bool) (ns ts : List Vertex) → grown x vs (ns ++ ts) ≡ grown x (grown x vs ns) ts
unfolding grown
grown-append x vs [] ts = refl
grown-append x vs (n ∷ ns) ts = grown-append x (vs ++ (cond (x n.var) (edge_in vs n.hi) (edge_in vs n.lo) ∷ [])) ns ts

-- values of earlier nodes stay
grown-keeps : (x : Assignment) (vs : List Bool) (ns : List Vertex) (k : ℕ) → k < length vs → get_or (grown x vs ns) k false ≡ get_or vs k false
unfolding grown
grown-keeps x vs [] k h = refl
grown-keeps x vs (n ∷ ns) k h =
    let v = cond (x n.var) (edge_in vs n.hi) (edge_in vs n.lo) in
    grown-keeps x (vs ++ (v ∷ [])) ns k (simp length-append (omega arith)) ∙ get_or-append vs (v ∷ []) false k h

length-values : (ns : List Vertex) (x : Assignment) → length (values ns x) ≡ length ns
length-values ns x = omega (arith, length-grown x [] ns)

-- ---- values of edges

edge_same : (us vs : List Bool) (e : ℕ) → get_or us (e / 2) false ≡ get_or vs (e / 2) false → edge_in us e ≡ edge_in vs e
unfolding edge_in
edge_same us vs e h = ap (λ (b : Bool). cond (eqb (e % 2) 0) b (not b)) h

-- an edge of ns has the same value where there are more nodes
pub value-append : (ns ts : List Vertex) (x : Assignment) (e : ℕ) → In ns e → value (ns ++ ts) x e ≡ value ns x e
unfolding value
value-append ns ts x e h =
    edge_same (values (ns ++ ts) x) (values ns x) e
    (ap (λ (vs : List Bool). get_or vs (e / 2) false) (grown-append x [] ns ts)
    ∙ grown-keeps x (values ns x) ts (e / 2) (let q = length-values ns x in omega arith))

pub flip_is : (e c : ℕ) → flip e c ≡ 2 * (e / 2) + (e % 2 + c % 2) % 2
unfolding flip
flip_is e c = refl

-- an edge and its complement have one node
pub flip-node : (e c : ℕ) → flip e c / 2 ≡ e / 2
flip-node e c = omega (arith, flip_is e c)

pub flip-in : (ns : List Vertex) (e c : ℕ) → In ns e → In ns (flip e c)
flip-in ns e c h = omega (arith, flip-node e c)

-- the value of an edge by its sign and its node
value-even : (ns : List Vertex) (x : Assignment) (e : ℕ) → e % 2 ≡ 0 → value ns x e ≡ get_or (values ns x) (e / 2) false
unfolding value edge_in
value-even ns x e h = rw (eq-eqb (e % 2) 0 h)

value-odd : (ns : List Vertex) (x : Assignment) (e : ℕ) → e % 2 ≡ 1 → value ns x e ≡ not (get_or (values ns x) (e / 2) false)
unfolding value edge_in
value-odd ns x e h = rw (ne_eqb (e % 2) 0 (λ q. omega arith))

-- the complement where c is odd
abbrev pub signed : ℕ → Bool → Bool
signed c b = cond (eqb (c % 2) 0) b (not b)

twice : (b : Bool) → b ≡ not (not b)
twice true = refl
twice false = refl

pub value-flip : (ns : List Vertex) (x : Assignment) (e c : ℕ) → value ns x (flip e c) ≡ signed c (value ns x e)
value-flip ns x e c = go (eqb (c % 2) 0) (eqb (e % 2) 0) refl refl
  where
    at : ℕ → Bool
    at k = get_or (values ns x) k false

    go : (p q : Bool) → eqb (c % 2) 0 ≡ p → eqb (e % 2) 0 ≡ q → value ns x (flip e c) ≡ cond p (value ns x e) (not (value ns x e))
    go true q i j = let z : flip e c ≡ e = omega (arith, flip_is e c, eqb-true (c % 2) 0 i) in ap (value ns x) z
    go false true i j =
        let n : (c % 2 ≡ 0 → ⊥) = eqb-false (c % 2) 0 i in
        value-odd ns x (flip e c) (omega (arith, flip_is e c, eqb-true (e % 2) 0 j)) ∙ ap (λ (k : ℕ). not (at k)) (flip-node e c)
        ∙ sym (ap not (value-even ns x e (omega (arith, eqb-true (e % 2) 0 j))))
    go false false i j =
        let n : (c % 2 ≡ 0 → ⊥) = eqb-false (c % 2) 0 i in
        let m : (e % 2 ≡ 0 → ⊥) = eqb-false (e % 2) 0 j in
        value-even ns x (flip e c) (omega (arith, flip_is e c)) ∙ ap at (flip-node e c) ∙ twice (at (e / 2))
        ∙ sym (ap not (value-odd ns x e (omega arith)))

-- the complement
pub value_not : (ns : List Vertex) (x : Assignment) (e : ℕ) → value ns x (flip e 1) ≡ not (value ns x e)
value_not ns x e = value-flip ns x e 1

-- ---- a node

values-more : (ns : List Vertex) (n : Vertex) (x : Assignment) → values (ns ++ (n ∷ [])) x ≡ values ns x ++
    (if_else ns n.var n.lo n.hi x ∷ [])
unfolding value grown
values-more ns n x = grown-append x [] ns (n ∷ [])

-- a new node goes along its edges
pub value-new : (ns : List Vertex) (n : Vertex) (x : Assignment) (k : ℕ) → k ≡ length ns
    → value (ns ++ (n ∷ [])) x (2 * k) ≡ if_else ns n.var n.lo n.hi x
value-new ns n x k h =
    let z : 2 * k / 2 ≡ k = omega arith in
    let v = if_else ns n.var n.lo n.hi x in
    value-even (ns ++ (n ∷ [])) x (2 * k) (omega arith)
    ∙ ap₂ (λ (vs : List Bool) (j : ℕ). get_or vs j false) (values-more ns n x) z
    ∙ get_or_at (values ns x) v [] false k (length-values ns x ∙ sym h)

-- a choice between two equal values
pub same-either : (p b : Bool) → cond p b b ≡ b
same-either true b = refl
same-either false b = refl

-- edge 0 is false, edge 1 is true
pub value-false : (ns : List Vertex) → Built ns → (x : Assignment) → value ns x 0 ≡ false
unfolding grown
value-false ns b x = first ns b.some-node b.first
  where
    first : (ms : List Vertex) → 0 < length ms → node_at ms 0 ≡ false_vertex → value ms x 0 ≡ false
    first [] h q = absurd (omega arith)
    first (m ∷ ms) h q =
        value-append (m ∷ []) ms x 0 (omega arith) ∙ ap (λ (n : Vertex). value (n ∷ []) x 0) q ∙ value-new [] false_vertex x 0 refl
        ∙ same-either (x 4294967295) (value [] x 0) ∙ value-even [] x 0 refl

pub value-true : (ns : List Vertex) → Built ns → (x : Assignment) → value ns x 1 ≡ true
value-true ns b x = value-odd ns x 1 refl ∙ ap not (sym (value-even ns x 0 refl) ∙ value-false ns b x)

-- node k goes along its edges
pub value-node : (ns : List Vertex) → Built ns → (x : Assignment) (k : ℕ) → k < length ns
    → value ns x (2 * k) ≡ if_else ns (node_at ns k).var (node_at ns k).lo (node_at ns k).hi x
value-node ns b x zero h =
    let f = value-false ns b x in
    f ∙ sym (same-either (x 4294967295) false) ∙ sym (ap₂ (λ (y z : Bool). cond (x 4294967295) y z) f f)
    ∙ sym (ap (λ (n : Vertex). if_else ns n.var n.lo n.hi x) b.first)
value-node ns b x (suc j) h =
    let k = suc j in
    let p : 0 < k = omega arith in
    let n = node_at ns k in
    let hs = take k ns in
    let ts = drop (suc k) ns in
    let m = length-take-le k ns (omega arith) in
    let one : ns ≡ hs ++ (n ∷ ts) = split_at ns k no_vertex h in
    let two : ns ≡ (hs ++ (n ∷ [])) ++ ts = one ∙ sym (append_assoc hs (n ∷ []) ts) in
    let w : length (hs ++ (n ∷ [])) ≡ length hs + 1 = length-append hs (n ∷ []) in
    let z : 2 * k / 2 ≡ k = omega arith in
    let lower : (e : ℕ) → e / 2 < k → value hs x e ≡ value ns x e = λ e u.
    sym (ap (λ (l : List Vertex). value l x e) one ∙ value-append hs (n ∷ ts) x e (omega arith)) in
    ap (λ (l : List Vertex). value l x (2 * k)) two ∙ value-append (hs ++ (n ∷ [])) ts x (2 * k) (omega arith) ∙ value-new hs n x k (sym m)
    ∙ ap₂ (λ (y z : Bool). cond (x n.var) y z) (lower n.hi (b.hi k p h)) (lower n.lo (b.lo k p h))

signed-cond : (c : ℕ) (p y z : Bool) → signed c (cond p y z) ≡ cond p (signed c y) (signed c z)
signed-cond c true y z = refl
signed-cond c false y z = refl

-- an edge goes along those of its node, with its sign
pub value-edge : (ns : List Vertex) → Built ns → (x : Assignment) (e : ℕ) → In ns e → (n : Vertex) → n ≡ node_at ns (e / 2)
    → value ns x e ≡ if_else ns n.var (flip n.lo e) (flip n.hi e) x
value-edge ns b x e h n q =
    let z : e ≡ flip (2 * (e / 2)) e = omega (arith, flip_is (2 * (e / 2)) e) in
    ap (value ns x) z ∙ value-flip ns x (2 * (e / 2)) e
    ∙ ap (signed e) (value-node ns b x (e / 2) h ∙ ap (λ (m : Vertex). if_else ns m.var m.lo m.hi x) (sym q))
    ∙ signed-cond e (x n.var) (value ns x n.hi) (value ns x n.lo)
    ∙ ap₂ (λ (y z : Bool). cond (x n.var) y z) (sym (value-flip ns x n.hi e)) (sym (value-flip ns x n.lo e))

-- the edges of a node are of the diagram
pub lo-in : (ns : List Vertex) → Built ns → (k : ℕ) → k < length ns → In ns (node_at ns k).lo
lo-in ns b zero h = omega (arith, ap (λ (n : Vertex). n.lo / 2) b.first)
lo-in ns b (suc j) h = omega (arith, b.lo (suc j) (omega arith) h)

pub hi-in : (ns : List Vertex) → Built ns → (k : ℕ) → k < length ns → In ns (node_at ns k).hi
hi-in ns b zero h = omega (arith, ap (λ (n : Vertex). n.hi / 2) b.first)
hi-in ns b (suc j) h = omega (arith, b.hi (suc j) (omega arith) h)

-- ---- more nodes

pub front_same : (ns : List Vertex) → Front ns ns
front_same ns = record { more = []; same = sym (append-nil ns) }

pub front-more : {ns ms ls : List Vertex} → Front ns ms → Front ms ls → Front ns ls
front-more {ns} p q =
    record {
      more = p.more ++ q.more;
      same = q.same ∙ ap (λ (l : List Vertex). l ++ q.more) p.same ∙ append_assoc ns p.more q.more;
    }

pub front_length : {ns ms : List Vertex} → Front ns ms → length ns ≤ length ms
front_length {ns} {ms} p = omega (arith, ap length p.same, length-append ns p.more)

pub front-value : {ns ms : List Vertex} → Front ns ms → (x : Assignment) (e : ℕ) → In ns e → value ms x e ≡ value ns x e
front-value {ns} p x e h = ap (λ (l : List Vertex). value l x e) p.same ∙ value-append ns p.more x e h

pub front-in : {ns ms : List Vertex} → Front ns ms → (e : ℕ) → In ns e → In ms e
front-in t e h = let l = front_length t in omega arith

pub front-node : {ns ms : List Vertex} → Front ns ms → (k : ℕ) → k < length ns → node_at ms k ≡ node_at ns k
front-node {ns} p k h = ap (λ (l : List Vertex). node_at l k) p.same ∙ get_or-append ns p.more no_vertex k h
