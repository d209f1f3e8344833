-- Laws of graphs: the values of nodes and edges, a graph with a gate more, and the gates that stand in working memory. Assumes nothing.
use mathlib.Core.Path.{◌≡◌, refl, sym, ap, ap₂, ◌∙◌}
use mathlib.Core.Bool.{Bool, true, false, not, cond, ◌&&◌}
use mathlib.Core.List.{List, [], ◌∷◌, ◌++◌, map, append_assoc}
use Prim.Native.Nat.{ℕ, zero, suc, ◌+◌, ◌-◌, ◌*◌, ◌/◌, ◌%◌, ◌≤◌, ◌<◌}
use native.Mathlib.Omega.{arith}
use lib.ListN.{length, get_or, take, drop, length-append, get_or-append}
use lib.Seq.{get_or_at, split_at, length-take-le}
use Rattle.aiger.specs.Lists.{upto}
use Rattle.aiger.specs.Bits.{nonzero, odd}
use Rattle.aiger.specs.Fold.{complement}
use Rattle.meaning.proofs.Lists.{map-upto-eq, map-upto-suc, length-map-upto, get_d-map-upto}
use Rattle.meaning.proofs.Values.{value-even, value-eq, value-complement}
use Rattle.literals.specs.Literal.{signed}
use Rattle.literals.proofs.Words.{word-odd}
use Rattle.nodes.specs.Graph.{node_of, Pair, leaves, edge_in, grown, node_values, edge_value, nodes, no_pair, pair_at, InGraph, Extends, same, more}
use Rattle.nodes.specs.Store.{field, pair_of, pairs_of, one_more}
use Rattle.nodes.specs.Edges.{edge_of, word_edge, edge_word, opposite}
use Rattle.nodes.specs.declared.Graph.{Graph}
use Rattle.nodes.specs.declared.Edge.{Edge}

-- ---- values

length-leaves : (n : ℕ) (f : ℕ → Bool) → length (leaves n f) ≡ n + 1
unfolding leaves
length-leaves n f = omega (arith, length-map-upto f n)

length-grown : (vs : List Bool) (gs : List Pair) → length (grown vs gs) ≡ length vs + length gs
unfolding grown
length-grown vs [] = omega arith
length-grown vs (g ∷ gs) =
    length-grown (vs ++ ((edge_in vs g.left && edge_in vs g.right) ∷ [])) gs ∙ simp length-append (omega arith)

grown-append : (vs : List Bool) (gs hs : List Pair) → grown vs (gs ++ hs) ≡ grown (grown vs gs) hs
unfolding grown
grown-append vs [] hs = refl
grown-append vs (g ∷ gs) hs = grown-append (vs ++ ((edge_in vs g.left && edge_in vs g.right) ∷ [])) gs hs

grown-keeps : (vs : List Bool) (gs : List Pair) (k : ℕ) → k < length vs → get_or (grown vs gs) k false ≡ get_or vs k false
unfolding grown
grown-keeps vs [] k h = refl
grown-keeps vs (g ∷ gs) k h =
    let v = edge_in vs g.left && edge_in vs g.right in
    grown-keeps (vs ++ (v ∷ [])) gs k (simp length-append (omega arith)) ∙ get_or-append vs (v ∷ []) false k h

-- there is a value for each node
pub length-node_values : (n : ℕ) (gs : List Pair) (f : ℕ → Bool) → length (node_values n gs f) ≡ nodes n gs
unfolding node_values
length-node_values n gs f = length-grown (leaves n f) gs ∙ ap (λ (m : ℕ). m + length gs) (length-leaves n f)

-- the nodes of gs have the same values in gs ++ hs
pub node-append : (n : ℕ) (gs hs : List Pair) (f : ℕ → Bool) (k : ℕ) → k < nodes n gs
    → get_or (node_values n (gs ++ hs) f) k false ≡ get_or (node_values n gs f) k false
unfolding node_values
node-append n gs hs f k h =
    ap (λ (vs : List Bool). get_or vs k false) (grown-append (leaves n f) gs hs)
    ∙ grown-keeps (grown (leaves n f) gs) hs k (let e = length-node_values n gs f in omega arith)

-- edges with the same value at their node
pub edge-eq : (us vs : List Bool) (e : ℕ) → get_or us (node_of e) false ≡ get_or vs (node_of e) false → edge_in us e ≡ edge_in vs e
edge-eq us vs e h = value-eq (λ k. get_or us k false) (λ k. get_or vs k false) e h

-- the same of edges
pub edge-append : (n : ℕ) (gs hs : List Pair) (f : ℕ → Bool) (e : ℕ) → InGraph n gs e → edge_value n (gs ++ hs) f e ≡ edge_value n gs f e
edge-append n gs hs f e h = edge-eq (node_values n (gs ++ hs) f) (node_values n gs f) e (node-append n gs hs f (node_of e) h)

pub edge-extends : (n : ℕ) {gs hs : List Pair} (f : ℕ → Bool) (e : ℕ) → Extends gs hs → InGraph n gs e → edge_value n hs f e ≡ edge_value n gs f e
edge-extends n f e same h = refl
edge-extends n {gs} f e (more p) h = edge-append n gs (p ∷ []) f e h

pub length_more : (gs : List Pair) (p : Pair) → length (gs ++ (p ∷ [])) ≡ length gs + 1
length_more gs p = simp length-append (omega arith)

pub extends-length : {gs hs : List Pair} → Extends gs hs → length gs ≤ length hs
extends-length same = omega arith
extends-length {gs} (more p) = omega (arith, length_more gs p)

-- the edge to node k has the value of node k
pub edge-node : (vs : List Bool) (k : ℕ) → edge_in vs (2 * k) ≡ get_or vs k false
edge-node vs k =
    let e : 2 * k / 2 ≡ k = omega arith in
    value-even (λ j. get_or vs j false) (2 * k) (omega arith) ∙ ap (λ (j : ℕ). get_or vs j false) e

-- 2k + 1 is the complement of 2k
pub edge-complement : (n : ℕ) (gs : List Pair) (f : ℕ → Bool) (k : ℕ) → edge_value n gs f (2 * k + 1) ≡ not (edge_value n gs f (2 * k))
edge-complement n gs f k = value-complement (λ j. get_or (node_values n gs f) j false) k

-- the values of gs with a gate more
pub node_values-more : (n : ℕ) (gs : List Pair) (p : Pair) (f : ℕ → Bool)
    → node_values n (gs ++ (p ∷ [])) f ≡ node_values n gs f ++ ((edge_value n gs f p.left && edge_value n gs f p.right) ∷ [])
unfolding node_values grown
node_values-more n gs p f = grown-append (leaves n f) gs (p ∷ [])

-- the new gate is true exactly when both its operands are
pub edge-new : (n : ℕ) (gs : List Pair) (p : Pair) (f : ℕ → Bool)
    → edge_value n (gs ++ (p ∷ [])) f (2 * nodes n gs) ≡ (edge_value n gs f p.left && edge_value n gs f p.right)
edge-new n gs p f =
    let v = edge_value n gs f p.left && edge_value n gs f p.right in
    edge-node (node_values n (gs ++ (p ∷ [])) f) (nodes n gs)
    ∙ ap (λ (vs : List Bool). get_or vs (nodes n gs) false) (node_values-more n gs p f)
    ∙ get_or_at (node_values n gs f) v [] false (nodes n gs) (length-node_values n gs f)

-- the same of gate i, whose operands are earlier nodes
pub edge-gate : (n : ℕ) (gs : List Pair) (f : ℕ → Bool) (i : ℕ) → i < length gs → (p : Pair) → pair_at gs i ≡ p → node_of p.left < n + 1 + i → node_of p.right < n + 1 + i
    → edge_value n gs f (2 * (n + 1 + i)) ≡ (edge_value n gs f p.left && edge_value n gs f p.right)
edge-gate n gs f i h p q l r =
    let hs = take i gs in
    let t = drop (suc i) gs in
    let m = length-take-le i gs (omega arith) in
    let s : gs ≡ (hs ++ (p ∷ [])) ++ t = split_at gs i no_pair h ∙ ap (λ (z : Pair). hs ++ z ∷ t) q ∙ sym (append_assoc hs (p ∷ []) t) in
    let w : length (hs ++ (p ∷ [])) ≡ i + 1 = length_more hs p ∙ ap (λ (z : ℕ). z + 1) m in
    let z : gs ≡ hs ++ ((p ∷ []) ++ t) = split_at gs i no_pair h ∙ ap (λ (z : Pair). hs ++ z ∷ t) q in
    let k : nodes n hs ≡ n + 1 + i = ap (λ (z : ℕ). n + 1 + z) m in
    let d : 2 * (n + 1 + i) / 2 ≡ n + 1 + i = omega arith in
    let a : (e : ℕ) → node_of e < n + 1 + i → edge_value n gs f e ≡ edge_value n hs f e = λ e u.
    ap (λ (x : List Pair). edge_value n x f e) z ∙ edge-append n hs ((p ∷ []) ++ t) f e (omega arith) in
    ap (λ (x : List Pair). edge_value n x f (2 * (n + 1 + i))) s ∙ edge-append n (hs ++ (p ∷ [])) t f (2 * (n + 1 + i)) (omega arith)
    ∙ ap (λ (x : ℕ). edge_value n (hs ++ (p ∷ [])) f (2 * x)) (sym k) ∙ edge-new n hs p f
    ∙ ap₂ (λ (x y : Bool). x && y) (sym (a p.left l)) (sym (a p.right r))

-- node 0 is false, so edge 0 is false and edge 1 true
pub node-constant : (n : ℕ) (gs : List Pair) (f : ℕ → Bool) → get_or (node_values n gs f) 0 false ≡ false
unfolding node_values leaves
node-constant n gs f = grown-keeps (leaves n f) gs 0 (omega (arith, length-leaves n f))

pub edge-false : (n : ℕ) (gs : List Pair) (f : ℕ → Bool) → edge_value n gs f 0 ≡ false
edge-false n gs f = node-constant n gs f

pub edge-true : (n : ℕ) (gs : List Pair) (f : ℕ → Bool) → edge_value n gs f 1 ≡ true
edge-true n gs f = ap not (node-constant n gs f)

-- node j + 1 is free bit j
pub node-free : (n : ℕ) (gs : List Pair) (f : ℕ → Bool) (j : ℕ) → j < n → get_or (node_values n gs f) (j + 1) false ≡ f j
unfolding node_values leaves
node-free n gs f j h =
    let e : j + 1 ≡ suc j = omega arith in
    grown-keeps (leaves n f) gs (j + 1) (omega (arith, length-leaves n f)) ∙ ap (λ (k : ℕ). get_or (leaves n f) k false) e ∙ get_d-map-upto f n j false h

pub edge-free : (n : ℕ) (gs : List Pair) (f : ℕ → Bool) (j : ℕ) → j < n → edge_value n gs f (2 * (j + 1)) ≡ f j
edge-free n gs f j h = edge-node (node_values n gs f) (j + 1) ∙ node-free n gs f j h

-- values depend on the free bits below n alone
pub node_values-eq : (n : ℕ) (gs : List Pair) (f h : ℕ → Bool) → ((j : ℕ) → j < n → f j ≡ h j) → node_values n gs f ≡ node_values n gs h
unfolding node_values leaves
node_values-eq n gs f h e = ap (λ (vs : List Bool). grown (false ∷ vs) gs) (map-upto-eq f h n e)

-- ---- pairs

pub pair_at-before : (gs : List Pair) (p : Pair) (i : ℕ) → i < length gs → pair_at (gs ++ (p ∷ [])) i ≡ pair_at gs i
pair_at-before gs p i h = get_or-append gs (p ∷ []) no_pair i h

pub pair_at-new : (gs : List Pair) (p : Pair) → pair_at (gs ++ (p ∷ [])) (length gs) ≡ p
pair_at-new gs p = get_or_at gs p [] no_pair (length gs) refl

-- ---- edges and words

-- the parts of an edge, read off its word
pub word-node : (e : Edge) → node_of (edge_word e) ≡ e.0.0
word-node e = go e.0.0 e.1
  where
    go : (k : ℕ) (b : Bool) → (2 * k + cond b 1 0) / 2 ≡ k
    go k true = omega arith
    go k false = omega arith

bit-back : (x : ℕ) → x < 2 → cond (nonzero x) 1 0 ≡ x
bit-back zero h = refl
bit-back (suc zero) h = refl
bit-back (suc (suc x)) h = absurd (omega arith)

-- the word of the edge that a word stands for
pub edge-word : (w : ℕ) → edge_word (word_edge w) ≡ w
edge-word w = omega (arith, bit-back (w % 2) (omega arith))

-- an edge is the one that its word stands for
pub word-edge : (e : Edge) → word_edge (edge_word e) ≡ e
word-edge e = ap₂ edge_of (word-node e) (word-odd (signed e.0.0 e.1))

-- the sign of an edge, and its opposite, read off its word
pub word-sign : (e : Edge) → odd (edge_word e) ≡ e.1
word-sign e = word-odd (signed e.0.0 e.1)

pub word-opposite : (e : Edge) → complement (edge_word e) ≡ edge_word (opposite e)
word-opposite e = go e.0.0 e.1
  where
    go : (k : ℕ) (b : Bool) → complement (2 * k + cond b 1 0) ≡ 2 * k + cond (not b) 1 0
    go k true = omega arith
    go k false = omega arith

-- an opposite edge has the opposite value
pub edge-opposite : (n : ℕ) (gs : List Pair) (f : ℕ → Bool) (e : Edge) → edge_value n gs f (edge_word (opposite e)) ≡ not (edge_value n gs f (edge_word e))
edge-opposite n gs f e = go e.0.0 e.1
  where
    twice : (b : Bool) → b ≡ not (not b)
    twice true = refl
    twice false = refl

    plain : (k : ℕ) → edge_value n gs f (2 * k + 0) ≡ edge_value n gs f (2 * k)
    plain k = let z : 2 * k + 0 ≡ 2 * k = omega arith in ap (edge_value n gs f) z

    go : (k : ℕ) (b : Bool) → edge_value n gs f (2 * k + cond (not b) 1 0) ≡ not (edge_value n gs f (2 * k + cond b 1 0))
    go k true = plain k ∙ twice (edge_value n gs f (2 * k)) ∙ sym (ap not (edge-complement n gs f k))
    go k false = edge-complement n gs f k ∙ sym (ap not (plain k))

-- ---- working memory

pub length-pairs_of : (work : List ℕ) (g : Graph) → length (pairs_of work g) ≡ g.nodes - (g.free + 1)
unfolding pairs_of
length-pairs_of work g = length-map-upto (λ i. pair_of work (g.free + 1 + i)) (g.nodes - (g.free + 1))

pub nodes-pairs_of : (work : List ℕ) (g : Graph) → g.free + 1 ≤ g.nodes → nodes g.free (pairs_of work g) ≡ g.nodes
nodes-pairs_of work g h = omega (arith, length-pairs_of work g)

pub pair_at-pairs_of : (work : List ℕ) (g : Graph) (i : ℕ) → g.free + 1 + i < g.nodes → pair_at (pairs_of work g) i ≡ pair_of work (g.free + 1 + i)
unfolding pairs_of
pair_at-pairs_of work g i h = get_d-map-upto (λ i. pair_of work (g.free + 1 + i)) (g.nodes - (g.free + 1)) i no_pair (omega arith)

pub pair_eq : {a b c d : ℕ} → a ≡ c → b ≡ d → ◌≡◌ {A = Pair} (record { left = a; right = b }) (record { left = c; right = d })
pair_eq p q = ap₂ (λ (x y : ℕ). record { left = x; right = y }) p q

-- a memory that has the same words 0 and 1 in the records of gates has the same gates
pub pairs_of-same : (work last : List ℕ) (g : Graph)
    → ((k : ℕ) → g.free + 1 ≤ k → k < g.nodes → (field last k 0 ≡ field work k 0) × (field last k 1 ≡ field work k 1)) → pairs_of last g ≡ pairs_of work g
unfolding pairs_of
pairs_of-same work last g h =
    map-upto-eq (λ i. pair_of last (g.free + 1 + i)) (λ i. pair_of work (g.free + 1 + i)) (g.nodes - (g.free + 1))
    (λ j u. let e = h (g.free + 1 + j) (omega arith) (omega arith) in pair_eq e.0 e.1)

-- a node more is a gate more
pub pairs_of-more : (work : List ℕ) (g : Graph) → g.free + 1 ≤ g.nodes → pairs_of work (one_more g) ≡ pairs_of work g ++ (pair_of work g.nodes ∷ [])
unfolding pairs_of
pairs_of-more work g h =
    let m = g.nodes - (g.free + 1) in
    let e : g.nodes + 1 - (g.free + 1) ≡ suc m = omega arith in
    let z : g.free + 1 + m ≡ g.nodes = omega arith in
    ap (λ (x : ℕ). map (λ i. pair_of work (g.free + 1 + i)) (upto x)) e
    ∙ map-upto-suc (λ i. pair_of work (g.free + 1 + i)) m
    ∙ ap (λ (x : ℕ). map (λ i. pair_of work (g.free + 1 + i)) (upto m) ++ (pair_of work x ∷ [])) z

-- the same, where the memory was changed, and words 0 and 1 of the earlier gates were not
pub pairs_of-added : (work last : List ℕ) (g : Graph) → g.free + 1 ≤ g.nodes
    → ((k : ℕ) → g.free + 1 ≤ k → k < g.nodes → (field last k 0 ≡ field work k 0) × (field last k 1 ≡ field work k 1))
    → pairs_of last (one_more g) ≡ pairs_of work g ++ (pair_of last g.nodes ∷ [])
pairs_of-added work last g h e = pairs_of-more last g h ∙ ap (λ (l : List Pair). l ++ (pair_of last g.nodes ∷ [])) (pairs_of-same work last g e)
