-- `graph::make_packed` meets its contract. Assumes nothing.
use mathlib.Core.Path.{ap, ◌∙◌}
use Rattle.nodes.specs.Edges.{edge_word}
use Rattle.nodes.specs.declared.Edge.{Edge}
use Rattle.nodes.proofs.Laws.{edge-word}
use borrow.Author.Rules.{rules}
use Rattle.graph.proofs.make_packed.Statement.{statement}
use Rattle.graph.proofs.make_packed.Tie as tie

make-ordered-requires : tie.Need-make_ordered-requires
make-ordered-requires c κs =
    let e = ap (λ (x : Edge). edge_word x) c.from_word.ensures ∙ edge-word c.args.left.0 in
    let f = ap (λ (x : Edge). edge_word x) c.from_word-2.ensures ∙ edge-word c.args.right.0 in
    rw (e, f) c.requires

returns : tie.Need-returns
returns c =
    let e = ap (λ (x : Edge). edge_word x) c.from_word.ensures ∙ edge-word c.args.left.0 in
    let f = ap (λ (x : Edge). edge_word x) c.from_word-2.ensures ∙ edge-word c.args.right.0 in
    rw (e, f) at c.make_ordered.ensures

pub make_packed_spec : {M : Type 1} → statement M
make_packed_spec = tie.close (tie.spec (λ c κs. search rules) (λ c κs. search rules) make-ordered-requires (λ c. search rules) returns)
