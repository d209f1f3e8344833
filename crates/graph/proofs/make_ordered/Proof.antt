-- `graph::make_ordered` meets its contract: a rule gives the edge, or the operands are those of a gate. Assumes nothing.
use mathlib.Core.Path.{sym, ap, ◌∙◌}
use Rattle.nodes.specs.Edges.{edge_word}
use Rattle.rules.specs.Rules.{known}
use Rattle.graph.proofs.Outcomes.{known-made, gate-proper}
use borrow.Author.Rules.{rules}
use Rattle.graph.proofs.make_ordered.Statement.{statement}
use Rattle.graph.proofs.make_ordered.Tie as tie

simplify-requires : tie.Need-simplify-requires
simplify-requires c κs =
    let o = c.requires.0 in
    record { sized = o.stored.sized; inside = o.left }

make-gate-requires : tie.Need-make_gate-requires
make-gate-requires c κs =
    gate-proper c.args.work.now c.args.g (edge_word c.args.left) (edge_word c.args.right) c.requires.0 c.requires.1
    (sym c.simplify.ensures ∙ ap known c.in-None.is)

returns : tie.Need-returns-in-Some
returns c =
    known-made c.args.work.now c.args.g (edge_word c.args.left) (edge_word c.args.right) c.requires.0 c.requires.1 _
    (sym c.simplify.ensures ∙ ap known c.in-Some.is)

returns-2 : tie.Need-returns-in-None
returns-2 c = c.make_gate.ensures

pub make_ordered_spec : {M : Type 1} → statement M
make_ordered_spec =
    tie.close
    (tie.spec simplify-requires (λ c. search rules) (λ c. search rules) make-gate-requires (λ c. search rules) returns (λ c. search rules) returns-2)
