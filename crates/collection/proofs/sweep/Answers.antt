use Rattle.std.proofs.Common.{◌≡◌, ap, ◌∙◌, ℕ, ◌-◌, arith}
use Rattle.diagrams.specs.States.{state_of}
use Rattle.collection.specs.Collecting.{with_nodes, edges_marked, swept_in}
use Rattle.collection.proofs.Turns.{inside-by, again, length-swept, swept-more, swept_none}
use Rattle.collection.proofs.sweep.Goals as goal

pub loop-j-init : goal.loop-j-init
loop-j-init c = ap (with_nodes (state_of c.args.w.now)) (swept_none c.args.last (state_of c.args.w.now).nodes)

pub mark_edges-requires : goal.mark_edges-requires
mark_edges-requires c =
    let s = state_of c.args.w.now in
    inside-by s (state_of c.loop-j.w) (swept_in c.args.last c.loop-j.j s.nodes) c.loop-j.invariant
    (length-swept c.args.last c.loop-j.j s.nodes) c.requires

pub loop-j-preserved : goal.loop-j-preserved
loop-j-preserved c =
    let s = state_of c.args.w.now in
    let last = c.args.last in
    c.mark_edges.ensures
    ∙ again s (state_of c.loop-j.w) (λ ns. edges_marked ns (last - c.loop-j.j)) (swept_in last c.loop-j.j s.nodes) c.loop-j.invariant
    ∙ ap (with_nodes s) (swept-more last c.loop-j.j s.nodes)

pub returns : goal.returns
returns c =
    let s = state_of c.args.w.now in
    let last = c.args.last in
    let e : c.loop-j.j ≡ last = omega (arith, c.loop-j.auto.j-end, c.loop-j-test.false) in
    c.loop-j.invariant ∙ ap (λ (i : ℕ). with_nodes s (swept_in last i s.nodes)) e
