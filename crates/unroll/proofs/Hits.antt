-- The constraints and the bad line, one conjunction after the other. Assumes nothing.
use mathlib.Core.Path.{◌≡◌, refl, sym, ap, ap₂, ◌∙◌, subst}
use mathlib.Core.Bool.{Bool, true, false, not, cond, ◌&&◌}
use mathlib.Core.List.{List}
use Prim.Native.Nat.{ℕ, zero, suc, ◌+◌, ◌-◌, ◌%◌, ◌^◌, ◌<◌}
use native.Mathlib.Numerals.{add-one}
use native.Mathlib.Omega.{arith}
use lib.ListN.{get_or}
use Rattle.aiger.specs.Lists.{every_below}
use Rattle.aiger.specs.Bits.{nonzero, odd}
use Rattle.aiger.specs.Fold.{complement}
use Rattle.aiger.specs.Circuit.{var}
use Rattle.aiger.specs.Frames.{value, free_bit}
use Rattle.layout.specs.Words.{word, circuit_in}
use Rattle.layout.specs.declared.Layout.{Layout}
use Rattle.meaning.proofs.Values.{value-eq}
use Rattle.frames.specs.Lanes.{Ready}
use Rattle.frames.proofs.Facts.{constraints-are, constraint-place}
use Rattle.frames.proofs.Hits.{constrained-end}
use Rattle.literals.specs.Literal.{signed, literal, complemented}
use Rattle.nodes.specs.Graph.{Pair, edge_value}
use Rattle.nodes.specs.Store.{pairs_of}
use Rattle.nodes.specs.Edges.{edge_word}
use Rattle.nodes.specs.declared.Graph.{Graph}
use Rattle.nodes.specs.declared.Edge.{Edge}
use Rattle.nodes.proofs.Laws.{word-node}
use Rattle.graph.specs.Stored.{Operands, Conjoined}
use Rattle.graph.specs.declared.Made.{Made}
use Rattle.graph.specs.Chosen.{Outcome, conjoin}
use Rattle.unroll.specs.Chosen.{Mapping, literal_in, lines_made}
use Rattle.unroll.specs.Map.{literal_edge, mapped, Agrees, Extensible, Grown, ConstrainedMapped, LineMapped}
use Rattle.unroll.proofs.Follows.{literal-follows}
use Rattle.unroll.proofs.Edges.{literal-node, literal-edge, literal-value}
use Rattle.unroll.proofs.Growth.{grown-none, grown-made, grown-more, grown-count, mapped-kept}

and_assoc : (a b c : Bool) → ((a && b) && c) ≡ (a && (b && c))
and_assoc true b c = refl
and_assoc false b c = refl

pub and-true : (a : Bool) → (a && true) ≡ a
and-true true = refl
and-true false = refl

-- one line more: edge `left` of graph h, which has grown from g, with the edge of literal w in the map of g
module _ {count : ℕ} (work : List ℕ) (g : Graph) (map : List ℕ) (fits : Extensible count work g map) {n k : ℕ} (less : k < count) (mid : List ℕ) (h : Graph)
    (left e : Edge) (grown : Grown n k work g mid h) (node : left.0.0 < h.nodes) (w : ℕ) (q : e ≡ literal_edge map (literal w)) where
  pub line-operands : Operands mid h (edge_word left) (edge_word e)
  line-operands =
      record {
        stored = grown.stored;
        room = omega (arith, grown.most, grown.room, fits.room);
        left = omega (arith, word-node left, node);
        right = omega (arith, ap (λ (y : Edge). var (edge_word y)) q, literal-edge map (literal w), fits.edges (var w), grown.least);
      }

  line-value : (x : ℕ) → edge_value n (pairs_of mid h) (free_bit n x) (edge_word e) ≡ value (mapped n work g map x) w
  line-value x =
      ap (λ (y : Edge). edge_value n (pairs_of mid h) (free_bit n x) (edge_word y)) q ∙ literal-value n (pairs_of mid h) (free_bit n x) map w
      ∙ value-eq (mapped n mid h map x) (mapped n work g map x) w (mapped-kept map grown fits.edges x (var w))

  module _ (last : List ℕ) (made : Made) (c : Conjoined mid last h (edge_word left) (edge_word e) made) where
    pub line-grown : Grown n (k + 1) work g last made.graph
    line-grown = grown-more grown (subst (λ (n : ℕ). Grown n 1 mid h last made.graph) grown.free (grown-made mid last h made grown.stored c))

    pub line-conjoined : (x : ℕ) → x < 2 ^ n → edge_value n (pairs_of last made.graph) (free_bit n x) (edge_word made.edge)
        ≡ (edge_value n (pairs_of mid h) (free_bit n x) (edge_word left) && value (mapped n work g map x) w)
    line-conjoined x l =
        subst
        (λ (n : ℕ). (x : ℕ) → x < 2 ^ n → edge_value n (pairs_of last made.graph) (free_bit n x) (edge_word made.edge)
        ≡ (edge_value n (pairs_of mid h) (free_bit n x) (edge_word left) && edge_value n (pairs_of mid h) (free_bit n x) (edge_word e)))
        grown.free c.value x l
        ∙ ap (λ (b : Bool). edge_value n (pairs_of mid h) (free_bit n x) (edge_word left) && b) (line-value x)

    pub line-chosen : (s : Mapping) → Agrees s work g map → (l : ℕ) → w ≡ l
        → conjoin n (pairs_of mid h) (edge_word left) (literal_in s.edges l) ≡ record { gates = pairs_of last made.graph; edge = edge_word made.edge }
    line-chosen s a l z =
        ap (conjoin n (pairs_of mid h) (edge_word left)) (ap (literal_in s.edges) (sym z) ∙ sym (literal-follows a w) ∙ sym (ap edge_word q))
        ∙ ap (λ (i : ℕ). conjoin i (pairs_of mid h) (edge_word left) (edge_word e)) (sym grown.free) ∙ c.chosen

-- edge `from` and the first k constraints
pub record LeftUpto (m : List ℕ) (constraints k n : ℕ) (from : Edge) (work : List ℕ) (g : Graph) (map last : List ℕ) (h : Graph) (left : Edge) : Type 0 where
  pub grown : Grown n k work g last h
  pub node : left.0.0 < h.nodes
  pub lefts : (x : ℕ) → x < 2 ^ n
      → edge_value n (pairs_of last h) (free_bit n x) (edge_word left)
      ≡ (edge_value n (pairs_of work g) (free_bit n x) (edge_word from) && every_below k (λ j. value (mapped n work g map x) (word m (constraints + j))))
  pub follows : (s : Mapping) → Agrees s work g map → (lines : ℕ → ℕ) → ((j : ℕ) → j < k → word m (constraints + j) ≡ lines j)
      → lines_made lines n (edge_word from) k s ≡ record { gates = pairs_of last h; edge = edge_word left }

-- no line yet
lines_none : (lines : ℕ → ℕ) (n from : ℕ) (s : Mapping) {work : List ℕ} {g : Graph} {map : List ℕ} → Agrees s work g map
    → lines_made lines n from 0 s ≡ record { gates = pairs_of work g; edge = from }
unfolding lines_made
lines_none lines n from s a = ap (λ (x : List Pair). record { gates = x; edge = from }) (sym a.gates)

-- one line more
lines_more : (lines : ℕ → ℕ) (n from k : ℕ) (s : Mapping) {gs : List Pair} {left : ℕ} {o : Outcome} → lines_made lines n from k s ≡ record { gates = gs; edge = left }
    → conjoin n gs left (literal_in s.edges (lines k)) ≡ o → lines_made lines n from (k + 1) s ≡ o
unfolding lines_made
lines_more lines n from k s p c =
    rw (add-one k) (ap (λ (o : Outcome). conjoin n o.gates o.edge (literal_in s.edges (lines k))) p ∙ c)

module _ (m : List ℕ) (constraints count : ℕ) (from : Edge) (work : List ℕ) (g : Graph) (map : List ℕ) (fits : Extensible count work g map) where
  pub left-start : from.0.0 < g.nodes → LeftUpto m constraints 0 g.free from work g map work g from
  left-start l =
      record {
        grown = grown-none work g fits.stored;
        node = l;
        lefts = λ x k. sym (and-true (edge_value g.free (pairs_of work g) (free_bit g.free x) (edge_word from)));
        follows = λ s a lines p. lines_none lines g.free (edge_word from) s a;
      }

  -- one constraint more
  module _ {n : ℕ} (k : ℕ) (less : k < count) (mid : List ℕ) (h : Graph) (left e : Edge) (u : LeftUpto m constraints k n from work g map mid h left)
      (q : e ≡ literal_edge map (literal (word m (constraints + k)))) where
    pub left-operands : Operands mid h (edge_word left) (edge_word e)
    left-operands = line-operands work g map fits less mid h left e u.grown u.node (word m (constraints + k)) q

    pub left-more : (last : List ℕ) (made : Made) → Conjoined mid last h (edge_word left) (edge_word e) made
        → LeftUpto m constraints (k + 1) n from work g map last made.graph made.edge
    left-more last made c =
        let w : ℕ = word m (constraints + k) in
        record {
          grown = line-grown work g map fits less mid h left e u.grown u.node w q last made c;
          node = c.node;
          lefts = λ x l.
              let p : ℕ → Bool = λ j. value (mapped n work g map x) (word m (constraints + j)) in
              let f : Bool = edge_value n (pairs_of work g) (free_bit n x) (edge_word from) in
              line-conjoined work g map fits less mid h left e u.grown u.node w q last made c x l
              ∙ ap (λ (a : Bool). a && p k) (u.lefts x l) ∙ and_assoc f (every_below k p) (p k) ∙ ap (λ (i : ℕ). f && every_below i p) (sym (add-one k));
          follows = λ s a lines p.
              lines_more lines n (edge_word from) k s (u.follows s a lines (λ j l. p j (omega arith)))
              (line-chosen work g map fits less mid h left e u.grown u.node w q last made c s a (lines k) (p k (omega arith)));
        }

-- all constraints
pub left-done : {m : List ℕ} {layout : Layout} {order : List ℕ} {count : ℕ} → Ready m layout order count → (from : Edge) (n : ℕ) (work : List ℕ) (g : Graph) (map last : List ℕ)
    (made : Made) → LeftUpto m layout.constraints layout.c n from work g map last made.graph made.edge
    → ConstrainedMapped (circuit_in m) from n work g map last made
left-done {m} r from n work g map last made u =
    record {
      grown = grown-count (constraints-are r) u.grown;
      node = u.node;
      left = λ x k.
          u.lefts x k ∙ ap (λ (b : Bool). edge_value n (pairs_of work g) (free_bit n x) (edge_word from) && b) (constrained-end r (mapped n work g map x));
      follows = λ s a.
          let c = circuit_in m in
          ap (λ (k : ℕ). lines_made (λ j. get_or c.constraints j 0) n (edge_word from) k s) (sym (constraints-are r))
          ∙ u.follows s a (λ j. get_or c.constraints j 0) (λ j k. sym (constraint-place r j k));
    }

-- one literal
module _ (w : ℕ) (work : List ℕ) (before : Made) (map : List ℕ) (fits : Extensible 1 work before.graph map) (node : before.edge.0.0 < before.graph.nodes)
    (e : Edge) (q : e ≡ literal_edge map (literal w)) where
  abbrev none : Grown before.graph.free 0 work before.graph work before.graph
  none = grown-none work before.graph fits.stored

  pub literal-operands : Operands work before.graph (edge_word before.edge) (edge_word e)
  literal-operands = line-operands work before.graph map fits {k = 0} (omega arith) work before.graph before.edge e none node w q

  pub literal-done : (last : List ℕ) (made : Made) → Conjoined work last before.graph (edge_word before.edge) (edge_word e) made
      → LineMapped w before.graph.free work before map last made
  literal-done last made c =
      let g = before.graph in
      let n = g.free in
      record {
        grown = line-grown work g map fits {k = 0} (omega arith) work g before.edge e none node w q last made c;
        node = c.node;
        line = λ x l. line-conjoined work g map fits {k = 0} (omega arith) work g before.edge e none node w q last made c x l;
        follows = λ s a.
            ap (λ (gs : List Pair). conjoin n gs (edge_word before.edge) (literal_in s.edges w)) (sym a.gates)
            ∙ line-chosen work g map fits {k = 0} (omega arith) work g before.edge e none node w q last made c s a w refl;
      }

-- ---- the complement of a literal

complement-odd : (w : ℕ) → odd (complement w) ≡ not (odd w)
complement-odd w =
    let r = w % 2 in
    let e : complement w % 2 ≡ 1 - r = omega arith in
    ap nonzero e ∙ go r (omega arith)
  where
    go : (r : ℕ) → r < 2 → nonzero (1 - r) ≡ not (nonzero r)
    go zero l = refl
    go (suc zero) l = refl
    go (suc (suc r)) l = absurd (omega arith)

pub complement-literal : (w : ℕ) → complemented (literal w) ≡ literal (complement w)
complement-literal w =
    let e : var w ≡ var (complement w) = omega arith in
    ap₂ signed e (sym (complement-odd w))

pub complement-value : (f : ℕ → Bool) (w : ℕ) → value f (complement w) ≡ not (value f w)
complement-value f w =
    let e : var (complement w) ≡ var w = omega arith in
    ap₂ (λ (b : Bool) (v : ℕ). cond b (not (f v)) (f v)) (complement-odd w) e ∙ go (odd w) (f (var w))
  where
    go : (b x : Bool) → cond (not b) (not x) x ≡ not (cond b (not x) x)
    go true true = refl
    go true false = refl
    go false x = refl
