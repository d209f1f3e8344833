-- `collection::renamed` meets its contract. Assumes nothing.
use mathlib.Core.Path.{◌≡◌, refl, sym, ap, ◌∙◌}
use Prim.Native.Nat.{ℕ, ◌+◌, ◌-◌, ◌*◌, ◌/◌, ◌≤◌, ◌<◌}
use native.Mathlib.Omega.{arith}
use borrow.Author.Rules.{rules}
use Rattle.diagrams.specs.States.{state_of}
use Rattle.collection.proofs.Turns.{renamed_by}
use Rattle.collection.proofs.renamed.Statement.{statement}
use Rattle.collection.proofs.renamed.Tie as tie

returns : tie.Need-returns
returns c =
    let a = c.args in
    renamed_by (state_of a.w.now).nodes a.e c.read-n.result c.edge_to.result c.flip.result
    c.read-n.ensures c.edge_to.ensures c.flip.ensures

pub renamed_spec : {M : Type 1} → statement M
renamed_spec =
    tie.close
    (tie.spec (λ c κs. search rules) (λ c κs. search rules) (λ c κs. search rules) returns)
