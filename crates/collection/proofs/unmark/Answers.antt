use Rattle.std.proofs.Common.{◌≡◌, ap, ◌∙◌, ℕ, length, arith}
use Rattle.diagrams.specs.States.{state_of}
use Rattle.diagrams.proofs.View.{count-is}
use Rattle.collection.specs.Collecting.{with_nodes, linked_in, unmarked_in}
use Rattle.collection.proofs.Turns.{inside-by, again, length-unmarked, unmarked-more, unmarked-none}
use Rattle.collection.proofs.unmark.Goals as goal

pub loop-i-init : goal.loop-i-init
loop-i-init c = ap (with_nodes (state_of c.args.w.now)) (unmarked-none (state_of c.args.w.now).nodes)

pub link-requires : goal.link-requires
link-requires c =
    let s = state_of c.args.w.now in
    inside-by s (state_of c.loop-i.w) (unmarked_in c.loop-i.i s.nodes) c.loop-i.invariant (length-unmarked c.loop-i.i s.nodes) c.requires

pub loop-i-preserved : goal.loop-i-preserved
loop-i-preserved c =
    let s = state_of c.args.w.now in
    c.link.ensures ∙ again s (state_of c.loop-i.w) (λ ns. linked_in ns c.loop-i.i 0) (unmarked_in c.loop-i.i s.nodes) c.loop-i.invariant
    ∙ ap (with_nodes s) (unmarked-more c.loop-i.i s.nodes)

pub returns : goal.returns
returns c =
    let w = c.args.w.now in
    let e : c.loop-i.i ≡ length (state_of w).nodes = omega (arith, count-is w, c.get-n.ensures, c.loop-i.auto.i-end, c.loop-i-test.false) in
    c.loop-i.invariant ∙ ap (λ (i : ℕ). with_nodes (state_of w) (unmarked_in i (state_of w).nodes)) e
