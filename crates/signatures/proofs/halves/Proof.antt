-- `signatures::halves` meets its contract. Assumes nothing.
use mathlib.Core.Path.{refl}
use native.Mathlib.Omega.{arith}
use Rattle.signatures.specs.Bucket.{halves}
use borrow.Author.Rules.{rules}
use Rattle.signatures.proofs.halves.Statement.{statement}
use Rattle.signatures.proofs.halves.Tie as tie

returns : tie.Need-returns
unfolding halves
returns c = (refl, omega arith)

pub halves_spec : {M : Type 1} → statement M
halves_spec = tie.close (tie.spec (λ c. search rules) (λ c. search rules) (λ c. search rules) returns)
