-- `graph::append_signed` meets its contract: the word of the gate is the conjunction of the signatures of its operands. Assumes nothing.
use mathlib.Core.Path.{◌∙◌}
use native.Mathlib.Omega.{arith}
use Rattle.nodes.specs.Edges.{edge_word}
use Rattle.graph.proofs.Operands.{word_bound}
use Rattle.graph.proofs.Signed.{larger-size, signature-appended, signed-made}
use borrow.Author.Rules.{rules}
use Rattle.graph.proofs.append_signed.Statement.{statement}
use Rattle.graph.proofs.append_signed.Tie as tie

cast-k : tie.Need-overflow_cast-k
cast-k c =
    omega (arith, c.requires.0.proper.room, c.requires.0.proper.stored.sized.room)

signature-requires : tie.Need-signature-requires
signature-requires c κs =
    let w = c.requires.0.proper in
    omega (arith, w.earlier, w.stored.sized.nodes, w.stored.sized.held)

signature-requires-2 : tie.Need-signature-requires-2
signature-requires-2 c κs =
    let w = c.requires.0.proper in
    omega (arith, w.earlier, w.larger, w.stored.sized.nodes, w.stored.sized.held)

append-pair-requires : tie.Need-append_pair-graph-requires
append-pair-requires c κs =
    let w = c.requires.0.proper in
    (record { sized = w.stored.sized; store = w.stored.pairs; room = w.room }, word_bound w)

append-signature-requires : tie.Need-append_signature-requires
append-signature-requires c κs =
    let a = c.args in
    let w = c.requires.0.proper in (
      larger-size a.work.now c.append_pair-graph.new.work a.g (edge_word a.left) (edge_word a.right) c.requires.0 c.requires.1.0 c.append_pair-graph.auto.work c.append_pair-graph.ensures.1 c.append_pair-graph.result c.append_pair-graph.ensures.0,
      signature-appended a.work.now c.append_pair-graph.new.work a.g (edge_word a.left) (edge_word a.right) c.requires.0 c.requires.1.0 c.append_pair-graph.auto.work c.append_pair-graph.ensures.1 c.signature.result c.signature-2.result
          (c.signature.ensures a.g (w.stored.signatures c.requires.1.0) w.earlier)
          (c.signature-2.ensures a.g (w.stored.signatures c.requires.1.0) (omega (arith, w.earlier, w.larger))) c.append_pair-graph.result c.append_pair-graph.ensures.0,
    )

returns : tie.Need-returns
returns c =
    let a = c.args in
    signed-made a.work.now c.append_pair-graph.new.work a.g (edge_word a.left) (edge_word a.right) c.requires.0 c.requires.1.0 c.append_pair-graph.auto.work c.append_pair-graph.ensures.1 c.append_signature.new.work _
    (c.append_signature.auto.work ∙ c.append_pair-graph.auto.work) c.requires.1.1 c.append_pair-graph.result c.append_pair-graph.ensures.0 c.append_signature.ensures

pub append_signed_spec : {M : Type 1} → statement M
append_signed_spec =
    tie.close
    (tie.spec cast-k signature-requires signature-requires-2 append-pair-requires append-signature-requires (λ c. search rules) returns)
