-- Gates in an order in which operands come first: the graph and the map. Assumes nothing.
use mathlib.Core.Path.{◌≡◌, refl, sym, ap, ap₂, ◌∙◌, subst}
use mathlib.Core.Bool.{Bool, ◌&&◌}
use mathlib.Core.List.{List}
use Prim.Native.Nat.{ℕ, ◌+◌, ◌^◌, ◌≤◌, ◌<◌}
use native.Mathlib.Omega.{arith}
use lib.Dec.{T}
use lib.ListN.{length, set}
use lib.Seq.{get_or-set_same, get_or-set_other}
use Rattle.aiger.specs.Circuit.{Circuit, Gate, var, literals_right}
use Rattle.aiger.specs.Frames.{value, free_bit}
use Rattle.layout.specs.Order.{Ordered}
use Rattle.frames.proofs.Evaluation.{gate_on, Upto, upto-start, upto-more, upto-end}
use Rattle.literals.specs.Literal.{literal}
use Rattle.literals.specs.declared.Lit.{Lit}
use Rattle.nodes.specs.Graph.{edge_value}
use Rattle.nodes.specs.Store.{pairs_of}
use Rattle.nodes.specs.Edges.{edge_word}
use Rattle.nodes.specs.declared.Graph.{Graph}
use Rattle.nodes.specs.declared.Edge.{Edge}
use Rattle.nodes.proofs.Laws.{word-node}
use Rattle.graph.specs.Stored.{Stored, Operands, Conjoined}
use Rattle.graph.specs.declared.Made.{Made}
use Rattle.unroll.specs.Chosen.{Mapping, gates_made}
use Rattle.unroll.specs.Map.{literal_edge, Edges, mapped, Agrees, Extensible, Grown, GateMapped, GatesMapped}
use Rattle.unroll.proofs.Edges.{literal-edge, literal-value}
use Rattle.unroll.proofs.Growth.{grown-none, grown-made, grown-more, mapped-kept}
use Rattle.unroll.proofs.Stores.{set-edges}
use Rattle.unroll.proofs.Follows.{gate-follows, gates-start, gates-more, chosen-gate}

-- ---- one gate

-- the conjunction of the operands' edges, given to the gate's variable
pub gate-mapped : (gate : Gate) (work : List ℕ) (g : Graph) (maps last : List ℕ) (made : Made) → Stored work g → Edges g maps → var gate.lit < length maps
    → Conjoined work last g (edge_word (literal_edge maps (literal gate.left))) (edge_word (literal_edge maps (literal gate.right))) made
    → GateMapped gate g.free work g maps last made.graph (set maps (var gate.lit) (edge_word made.edge))
gate-mapped gate work g maps last made s b l c =
    let v : ℕ = var gate.lit in
    let e : ℕ = edge_word made.edge in
    let p = grown-made work last g made s c in
    record {
      grown = p;
      edges = set-edges maps v e made.graph.nodes l (λ u. omega (arith, b u, p.least)) (omega (arith, word-node made.edge, c.node));
      values = λ x h.
          record {
            result = ap (edge_value g.free (pairs_of last made.graph) (free_bit g.free x)) (get_or-set_same maps v e 0 l) ∙ c.value x h
                ∙ ap₂ (λ (a b : Bool). a && b)
                (literal-value g.free (pairs_of work g) (free_bit g.free x) maps gate.left)
                (literal-value g.free (pairs_of work g) (free_bit g.free x) maps gate.right);
            others = λ u n.
                ap (edge_value g.free (pairs_of last made.graph) (free_bit g.free x)) (get_or-set_other maps v u e 0 (λ q. n (sym q)))
                ∙ mapped-kept maps p b x u;
          };
      follows = gate-follows gate g.free work g maps last made.graph (edge_word made.edge) l c.chosen;
    }

-- the same, where what is given is known by equations
pub gate-put : (gate : Gate) (work : List ℕ) (g : Graph) (maps last : List ℕ) (made : Made) → Stored work g → Edges g maps → var gate.lit < length maps
    → {a b : Edge} → a ≡ literal_edge maps (literal gate.left) → b ≡ literal_edge maps (literal gate.right) → Conjoined work last g (edge_word a) (edge_word b) made
    → (after : List ℕ) (v : ℕ) → v ≡ var gate.lit → after ≡ set maps v (edge_word made.edge) → GateMapped gate g.free work g maps last made.graph after
gate-put gate work g maps last made s e l {a} {b} p q c after v k w =
    subst (λ (y : List ℕ). GateMapped gate g.free work g maps last made.graph y) (sym (w ∙ ap (λ (u : ℕ). set maps u (edge_word made.edge)) k))
    (gate-mapped gate work g maps last made s e l
    (subst (λ (y : Edge). Conjoined work last g (edge_word (literal_edge maps (literal gate.left))) (edge_word y) made) q
    (subst (λ (y : Edge). Conjoined work last g (edge_word y) (edge_word b) made) p c)))

-- edges of the map are operands
pub gate-operands : (work : List ℕ) (g : Graph) (maps : List ℕ) → Extensible 1 work g maps → {a b : Edge} (p q : Lit) → a ≡ literal_edge maps p → b ≡ literal_edge maps q
    → Operands work g (edge_word a) (edge_word b)
gate-operands work g maps f p q d e =
    record {
      stored = f.stored;
      room = omega (arith, f.room);
      left = omega (arith, ap (λ (y : Edge). var (edge_word y)) d, literal-edge maps p, f.edges p.0.0);
      right = omega (arith, ap (λ (y : Edge). var (edge_word y)) e, literal-edge maps q, f.edges q.0.0);
    }

-- ---- the graph and the map

-- after the first k gates of the order
pub record MadeUpto (c : Circuit) (order : List ℕ) (k n : ℕ) (work : List ℕ) (g : Graph) (maps last : List ℕ) (h : Graph) (after : List ℕ) : Type 0 where
  pub grown : Grown n k work g last h
  pub edges : Edges h after
  pub values : (x : ℕ) → x < 2 ^ n → Upto c order k (mapped n work g maps x) (mapped n last h after x)
  pub follows : (s : Mapping) → Agrees s work g maps → Agrees (gates_made c n k s) last h after

pub made-start : (c : Circuit) (order work : List ℕ) (g : Graph) (maps : List ℕ) → Stored work g → Edges g maps → MadeUpto c order 0 g.free work g maps work g maps
made-start c order work g maps s b =
    record { grown = grown-none work g s; edges = b; values = λ x h. upto-start c order _; follows = λ s a. gates-start c g.free s a }

-- there is room for the next gate
pub made-extensible : {c : Circuit} {order : List ℕ} {k n : ℕ} {work : List ℕ} {g : Graph} {maps last : List ℕ} {h : Graph} {after : List ℕ} {count : ℕ}
    → Extensible count work g maps → k < count → MadeUpto c order k n work g maps last h after → Extensible 1 last h after
made-extensible f l u = record { stored = u.grown.stored; room = omega (arith, u.grown.most, u.grown.room, f.room); edges = u.edges }

module _ {c : Circuit} (right : T (literals_right c)) {order : List ℕ} (o : Ordered c order) {n : ℕ} {work : List ℕ} {g : Graph} {maps : List ℕ} where
  pub made_more : (k : ℕ) → k < length c.gates → {mid last middle after : List ℕ} {h i : Graph} → MadeUpto c order k n work g maps mid h middle
      → GateMapped (gate_on c order k) n mid h middle last i after → MadeUpto c order (k + 1) n work g maps last i after
  made_more k l u s =
      record {
        grown = grown-more u.grown s.grown;
        edges = s.edges;
        values = λ x b. upto-more right o k l (u.values x b) (s.values x b);
        follows = λ z a. gates-more c n k z (chosen-gate o k l) (s.follows (gates_made c n k z) (u.follows z a));
      }

  pub made-end : {last after : List ℕ} {h : Graph} → MadeUpto c order (length c.gates) n work g maps last h after → GatesMapped c n work g maps last h after
  made-end u = record { grown = u.grown; edges = u.edges; values = λ x b. upto-end right o (u.values x b); follows = u.follows }
