-- `signatures::signature` meets its contract. Assumes nothing.
use mathlib.Core.Path.{◌∙◌}
use native.Mathlib.Omega.{arith}
use Rattle.nodes.specs.Edges.{edge_word}
use Rattle.signatures.proofs.Stores.{store-edge}
use borrow.Author.Rules.{rules}
use Rattle.signatures.proofs.signature.Statement.{statement}
use Rattle.signatures.proofs.signature.Tie as tie

returns : tie.Need-returns
returns c =
    λ g s h.
    let a = c.args in
    record { fits = omega arith; bits = λ p l. c.edge_word.ensures p l ∙ store-edge a.work.now g s (edge_word a.edge) h p l }

pub signature_spec : {M : Type 1} → statement M
signature_spec = tie.close (tie.spec (λ c κs. search rules) returns)
