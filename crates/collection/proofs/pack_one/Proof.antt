-- `collection::pack_one` meets its contract. Assumes nothing.
use mathlib.Core.Path.{◌≡◌, refl, sym, ap, ◌∙◌}
use Prim.Native.Nat.{ℕ, ◌+◌, ◌-◌, ◌*◌, ◌/◌, ◌≤◌, ◌<◌}
use native.Mathlib.Omega.{arith}
use borrow.Author.Rules.{rules}
use Rattle.diagrams.specs.States.{state_of}
use Rattle.collection.specs.Collecting.{with_nodes, Packed}
use Rattle.collection.proofs.Turns.{one_left, one-moved}
use Rattle.collection.proofs.pack_one.Statement.{statement}
use Rattle.collection.proofs.pack_one.Tie as tie

returns : tie.Need-returns-then-p-eq0
returns c =
    let a = c.args in
    let s = state_of a.w.now in
    let e = one_left s.nodes a.n a.k c.read-p.result c.read-p.ensures c.if-p-eq0.true in
    (ap (λ (p : Packed). with_nodes s p.nodes) e, ap (λ (p : Packed). p.count) e)

move-node-requires : tie.Need-move_node-requires
move-node-requires c κs = c.requires.0

returns-2 : tie.Need-returns
returns-2 c =
    let a = c.args in
    let s = state_of a.w.now in
    let e = one-moved s.nodes a.n a.k c.read-p.result
    c.read-p.ensures c.if-p-eq0.false in
    (c.move_node.ensures ∙ ap (λ (p : Packed). with_nodes s p.nodes) e, ap (λ (p : Packed). p.count) e)

pub pack_one_spec : {M : Type 1} → statement M
pack_one_spec =
    tie.close
    (tie.spec (λ c κs. search rules) (λ c. search rules) returns move-node-requires (λ c. search rules) (λ c. search rules) returns-2)
