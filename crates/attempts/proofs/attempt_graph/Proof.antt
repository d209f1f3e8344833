-- `attempts::attempt_graph` meets its contract. Assumes nothing.
use mathlib.Core.Path.{sym, ◌∙◌}
use native.Mathlib.Omega.{arith}
use borrow.Author.Rules.{rules}
use lib.ListN.{length}
use Rattle.aiger.specs.Frames.{free_bits}
use Rattle.layout.specs.Words.{circuit_in}
use Rattle.nodes.specs.Edges.{edge_word}
use Rattle.decision.proofs.Graphs.{marked}
use Rattle.attempts.proofs.Small.{small-few}
use Rattle.attempts.proofs.Graphs.{support-is, nodes-are, same_answer, small-out, small-scan, large}
use Rattle.attempts.proofs.attempt_graph.Statement.{statement}
use Rattle.attempts.proofs.attempt_graph.Tie as tie

prepare-requires : tie.Need-prepare-made-requires
prepare-requires c κs = c.requires.0

support-size-requires : tie.Need-support_size-s-requires
support-size-requires c κs = c.prepare-made.ensures.net.sized

is-small-requires : tie.Need-is_small-requires
is-small-requires c κs =
    let z = c.prepare-made.ensures.net.sized in
    omega (arith, z.nodes, z.room)

scan-cost-requires : tie.Need-scan_cost-cost-requires
scan-cost-requires c κs =
    let z = c.prepare-made.ensures.net.sized in
    (small-few _ _ (sym c.is_small.ensures ∙ c.if-is_small.true), omega (arith, z.nodes, z.room))

returns : tie.Need-returns-then-e-cost
returns c =
    let s = c.args in
    let n = c.support_size-s.ensures (edge_word c.prepare-made.result.edge) c.prepare-made.ensures.net.marks ∙ support-is c.prepare-made.ensures in
    small-out (circuit_in s.m.now) s.b s.t s.e _ _ n (nodes-are c.prepare-made.ensures)
    (sym c.is_small.ensures ∙ c.if-is_small.true) _ c.scan_cost-cost.ensures c.if-e-cost.true

scan-support-requires : tie.Need-scan_support-requires
scan-support-requires c κs =
    record {
      net = c.prepare-made.ensures.net;
      count = c.support_size-s.ensures (edge_word c.prepare-made.result.edge) c.prepare-made.ensures.net.marks;
      few = small-few _ _ (sym c.is_small.ensures ∙ c.if-is_small.true);
    }

returns-2 : tie.Need-returns-then-is_small
returns-2 c =
    let s = c.args in
    let C = circuit_in s.m.now in
    let n = c.support_size-s.ensures (edge_word c.prepare-made.result.edge) c.prepare-made.ensures.net.marks ∙ support-is c.prepare-made.ensures in
    same_answer C s.b s.t s.e (small-scan C s.b s.t s.e _ _ n (nodes-are c.prepare-made.ensures)
    (sym c.is_small.ensures ∙ c.if-is_small.true) _ c.scan_cost-cost.ensures c.if-e-cost.false)
    (free_bits C s.t) c.scan_support.new.work c.scan_support.result (c.scan_support.ensures C s.b s.t c.prepare-made.ensures)

search-conflicts-requires : tie.Need-search_conflicts-requires
search-conflicts-requires c κs =
    marked c.prepare-made.ensures 1 (c.prepare-made.auto.work ∙ c.requires.1)

returns-3 : tie.Need-returns
returns-3 c =
    let s = c.args in
    let C = circuit_in s.m.now in
    let n = c.support_size-s.ensures (edge_word c.prepare-made.result.edge) c.prepare-made.ensures.net.marks ∙ support-is c.prepare-made.ensures in
    same_answer C s.b s.t s.e (large C s.b s.t s.e _ _ n (nodes-are c.prepare-made.ensures)
    (sym c.is_small.ensures ∙ c.if-is_small.false) (length c.prepare-made.new.work) (c.prepare-made.auto.work ∙ c.requires.1))
    (free_bits C s.t) c.search_conflicts.new.work c.search_conflicts.result (c.search_conflicts.ensures C s.b s.t c.prepare-made.ensures)

pub attempt_graph_spec : {M : Type 1} → statement M
attempt_graph_spec =
    tie.close
    (tie.spec prepare-requires support-size-requires is-small-requires scan-cost-requires (λ c. search rules) returns scan-support-requires (λ c. search rules) returns-2 search-conflicts-requires (λ c. search rules) returns-3)
