use Rattle.std.proofs.Common.{◌≡◌, ap, ◌∙◌, ℕ, ◌/◌, length, get_or, arith}
use Rattle.diagrams.specs.States.{state_of}
use Rattle.collection.specs.Collecting.{with_nodes, linked_in, rooted_in}
use Rattle.collection.proofs.Turns.{inside-by, again, length-rooted, rooted_more, rooted_none}
use Rattle.collection.proofs.mark_roots.Goals as goal

pub loop-root-init : goal.loop-root-init
loop-root-init c = ap (with_nodes (state_of c.args.w.now)) (rooted_none c.args.roots.now (state_of c.args.w.now).nodes)

pub link-requires : goal.link-requires
link-requires c =
    let s = state_of c.args.w.now in
    let i = c.loop-root.root-index in
    inside-by s (state_of c.loop-root.w) (rooted_in c.args.roots.now i s.nodes) c.loop-root.invariant
    (length-rooted c.args.roots.now i s.nodes) c.requires

pub loop-root-preserved : goal.loop-root-preserved
loop-root-preserved c =
    let s = state_of c.args.w.now in
    let roots = c.args.roots.now in
    let i = c.loop-root.root-index in
    c.link.ensures
    ∙ again s (state_of c.loop-root.w) (λ ns. linked_in ns (get_or roots i 0 / 2) 1) (rooted_in roots i s.nodes) c.loop-root.invariant
    ∙ ap (with_nodes s) (rooted_more roots i s.nodes)

pub returns : goal.returns
returns c =
    let s = state_of c.args.w.now in
    let roots = c.args.roots.now in
    let e : c.loop-root.root-index ≡ length roots = omega (arith, c.loop-root.auto.root-index-end, c.loop-root-test.false) in
    c.loop-root.invariant ∙ ap (λ (i : ℕ). with_nodes s (rooted_in roots i s.nodes)) e
