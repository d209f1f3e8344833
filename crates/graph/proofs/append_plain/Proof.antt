-- `graph::append_plain` meets its contract: with more than twelve free bits nothing is asked of signatures. Assumes nothing.
use native.Mathlib.Omega.{arith}
use Rattle.nodes.specs.Edges.{edge_word}
use Rattle.graph.proofs.Operands.{word_bound}
use Rattle.graph.proofs.Outcomes.{added-made}
use borrow.Author.Rules.{rules}
use Rattle.graph.proofs.append_plain.Statement.{statement}
use Rattle.graph.proofs.append_plain.Tie as tie

cast-k : tie.Need-overflow_cast-k
cast-k c =
    omega (arith, c.requires.0.proper.room, c.requires.0.proper.stored.sized.room)

append-pair-requires : tie.Need-append_pair-graph-requires
append-pair-requires c κs =
    let w = c.requires.0.proper in
    (record { sized = w.stored.sized; store = w.stored.pairs; room = w.room }, word_bound w)

returns : tie.Need-returns
returns c =
    added-made c.args.work.now c.append_pair-graph.new.work c.args.g (edge_word c.args.left) (edge_word c.args.right) c.requires.0 c.append_pair-graph.auto.work c.append_pair-graph.ensures.1.pairs c.append_pair-graph.ensures.1.store
    (λ l. absurd (omega (arith, c.requires.1))) (λ l. absurd (omega (arith, c.requires.1))) c.append_pair-graph.result c.append_pair-graph.ensures.0

pub append_plain_spec : {M : Type 1} → statement M
append_plain_spec = tie.close (tie.spec cast-k append-pair-requires (λ c. search rules) returns)
