-- `collection::mark_edges` meets its contract. Assumes nothing.
use mathlib.Core.Path.{◌≡◌, refl, sym, ap, ◌∙◌}
use Prim.Native.Nat.{ℕ, ◌+◌, ◌-◌, ◌*◌, ◌/◌, ◌≤◌, ◌<◌}
use native.Mathlib.Omega.{arith}
use borrow.Author.Rules.{rules}
use Rattle.diagrams.specs.States.{state_of}
use Rattle.collection.specs.Collecting.{with_nodes, linked_in}
use Rattle.collection.proofs.Turns.{inside-by, again, length-linked, edges-marked, edges-unmarked}
use Rattle.collection.proofs.mark_edges.Statement.{statement}
use Rattle.collection.proofs.mark_edges.Tie as tie

link-requires : tie.Need-link-requires
link-requires c κs = c.requires

link-requires-2 : tie.Need-link-requires-then-p-ne0
link-requires-2 c κs =
    let s = state_of c.args.w.now in
    let p = c.read-p.result in
    inside-by s (state_of c.link.new.w) (linked_in s.nodes (p.lo / 2) 1)
    c.link.ensures (length-linked s.nodes (p.lo / 2) 1)
    c.requires

same_length : tie.Need-shape_of-w-then-p-ne0
same_length c = c.link-then-p-ne0.auto.w ∙ c.link.auto.w

returns : tie.Need-returns-then-p-ne0
returns c =
    let s = state_of
    c.args.w.now in
    let p = c.read-p.result in
    c.link-then-p-ne0.ensures
    ∙ again s (state_of c.link.new.w) (λ ns. linked_in ns (p.hi / 2) 1)
    (linked_in s.nodes (p.lo / 2) 1) c.link.ensures
    ∙ ap (with_nodes s) (edges-marked s.nodes
    c.args.n p
    c.read-p.ensures
    c.if-p-ne0.true)

returns-2 : tie.Need-returns-else-p-ne0
returns-2 c =
    let s = state_of c.args.w.now in
    ap (with_nodes s) (edges-unmarked s.nodes c.args.n c.read-p.result
    c.read-p.ensures c.if-p-ne0.false)

pub mark_edges_spec : {M : Type 1} → statement M
mark_edges_spec =
    tie.close
    (tie.spec (λ c κs. search rules) link-requires link-requires-2 same_length returns (λ c. search rules) returns-2)
