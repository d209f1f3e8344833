-- `collection::move_node` meets its contract. Assumes nothing.
use mathlib.Core.Path.{◌≡◌, refl, sym, ap, ◌∙◌}
use Prim.Native.Nat.{ℕ, ◌+◌, ◌-◌, ◌*◌, ◌/◌, ◌≤◌, ◌<◌}
use native.Mathlib.Omega.{arith}
use borrow.Author.Rules.{rules}
use lib.ListN.{set, length-set}
use Rattle.diagrams.specs.declared.Vertex.{Vertex}
use Rattle.diagrams.specs.States.{state_of}
use Rattle.collection.proofs.Turns.{inside-by, moved_by}
use Rattle.collection.proofs.move_node.Statement.{statement}
use Rattle.collection.proofs.move_node.Tie as tie

store-requires : tie.Need-store-requires
store-requires c κs = c.requires

link-requires : tie.Need-link-requires
link-requires c κs =
    let a = c.args in
    let s = state_of a.w.now in
    let p = c.read-p.result in
    let n : Vertex = record {
      lo = c.renamed-lo.result;
      hi = c.renamed-hi.result;
      var = p.var;
      next = c.read-q.result.next;
    } in
    inside-by s (state_of c.store.new.w) (set s.nodes a.k n)
    c.store.ensures (length-set s.nodes a.k n)
    c.requires

same_length : tie.Need-shape_of-w
same_length c = c.link.auto.w ∙ c.store.auto.w

returns : tie.Need-returns
returns c =
    let a = c.args in
    moved_by (state_of a.w.now) (state_of c.store.new.w)
    (state_of c.link.new.w) a.n a.k
    c.renamed-lo.result
    c.renamed-hi.result
    c.read-p.result
    c.read-q.result
    c.read-p.ensures
    c.read-q.ensures
    c.renamed-lo.ensures
    c.renamed-hi.ensures
    c.store.ensures c.link.ensures

pub move_node_spec : {M : Type 1} → statement M
move_node_spec =
    tie.close
    (tie.spec (λ c κs. search rules) (λ c κs. search rules) (λ c κs. search rules) (λ c κs. search rules) store-requires link-requires same_length returns)
