-- `diagrams::is_above` meets its contract. Assumes nothing.
use mathlib.Core.Path.{◌≡◌, ap}
use borrow.Author.Rules.{rules}
use lib.Dec.{ltb}
use Rattle.diagrams.specs.declared.Vertex.{Vertex}
use Rattle.diagrams.specs.States.{is_above}
use Rattle.diagrams.proofs.is_above.Statement.{statement}
use Rattle.diagrams.proofs.is_above.Tie as tie

returns : tie.Need-returns
unfolding is_above
returns c = ap (λ (n : Vertex). ltb c.args.v n.var) c.read-n.ensures

pub is_above_spec : {M : Type 1} → statement M
is_above_spec =
    tie.close
    (tie.spec (λ c κs. search rules) returns)
