-- `collection::link` meets its contract. Assumes nothing.
use mathlib.Core.Path.{◌≡◌, refl, sym, ap, ◌∙◌}
use Prim.Native.Nat.{ℕ, ◌+◌, ◌-◌, ◌*◌, ◌/◌, ◌≤◌, ◌<◌}
use native.Mathlib.Omega.{arith}
use borrow.Author.Rules.{rules}
use lib.ListN.{set}
use Rattle.diagrams.specs.declared.Vertex.{Vertex}
use Rattle.diagrams.specs.States.{state_of}
use Rattle.collection.specs.Collecting.{with_nodes, linked_in}
use Rattle.collection.proofs.link.Statement.{statement}
use Rattle.collection.proofs.link.Tie as tie

store-requires : tie.Need-store-requires
store-requires c κs = c.requires

returns : tie.Need-returns
unfolding linked_in
returns c =
    let a = c.args in
    let s = state_of a.w.now in
    c.store.ensures
    ∙ ap (λ (n : Vertex). with_nodes s (set s.nodes a.k (record { lo = n.lo; hi = n.hi; var = n.var; next = a.x })))
    c.read-n.ensures

pub link_spec : {M : Type 1} → statement M
link_spec =
    tie.close
    (tie.spec (λ c κs. search rules) store-requires (λ c. search rules) returns)
