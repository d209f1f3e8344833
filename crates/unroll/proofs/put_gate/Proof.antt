-- `unroll::put_gate` meets its contract. Assumes nothing.
use mathlib.Core.Path.{ap, ◌∙◌}
use native.Mathlib.Omega.{arith}
use Rattle.layout.specs.Words.{gate_in}
use Rattle.literals.specs.declared.Lit.{Lit}
use Rattle.literals.specs.declared.Var.{Var}
use Rattle.unroll.specs.Map.{literal_edge}
use Rattle.unroll.proofs.Edges.{word_small}
use Rattle.unroll.proofs.Gates.{gate-operands, gate-put}
use borrow.Author.Rules.{rules}
use Rattle.unroll.proofs.put_gate.Statement.{statement}
use Rattle.unroll.proofs.put_gate.Tie as tie

edge-of-requires : tie.Need-edge_of-a-requires
edge-of-requires c κs = omega (arith, ap (λ (l : Lit). l.0.0) c.from_word.ensures, c.requires.0.left)

edge-of-requires-2 : tie.Need-edge_of-b-requires
edge-of-requires-2 c κs = omega (arith, ap (λ (l : Lit). l.0.0) c.from_word-2.ensures, c.requires.0.right)

make-requires : tie.Need-make-made-requires
make-requires c κs =
    gate-operands c.args.work.now c.args.g c.args.map.now c.requires.1 c.from_word.result c.from_word-2.result c.edge_of-a.ensures.0 c.edge_of-b.ensures.0

put-edge-requires : tie.Need-put_edge-requires
put-edge-requires c κs = (
  omega (arith, ap (λ (v : Var). v.0) c.var.ensures, ap (λ (l : Lit). l.0.0) c.from_word-l.ensures, c.requires.0.lit),
  omega (arith, word_small c.make-made.result.edge c.make-made.result.graph.nodes c.make-made.ensures.node, c.make-made.ensures.stored.sized.nodes, c.make-made.ensures.stored.sized.room),
)

returns : tie.Need-returns
returns c =
    let map = c.args.map.now in
    gate-put (gate_in c.args.m.now c.args.at) c.args.work.now c.args.g map c.make-made.new.work c.make-made.result c.requires.1.stored c.requires.1.edges c.requires.0.lit
    (c.edge_of-a.ensures.0 ∙ ap (literal_edge map) c.from_word.ensures) (c.edge_of-b.ensures.0 ∙ ap (literal_edge map) c.from_word-2.ensures)
    c.make-made.ensures c.put_edge.new.map c.var.result.0 (ap (λ (v : Var). v.0) c.var.ensures ∙ ap (λ (l : Lit). l.0.0) c.from_word-l.ensures) c.put_edge.ensures

pub put_gate_spec : {M : Type 1} → statement M
put_gate_spec =
    tie.close
    (tie.spec (λ c. search rules) (λ c. search rules) (λ c κs. search rules) (λ c. search rules) (λ c. search rules) (λ c. search rules) (λ c κs. search rules) edge-of-requires (λ c. search rules) (λ c. search rules) (λ c. search rules) (λ c κs. search rules) edge-of-requires-2 make-requires (λ c κs. search rules) put-edge-requires (λ c. search rules) (λ c. search rules) returns)
