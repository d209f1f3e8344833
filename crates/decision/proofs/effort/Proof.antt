-- `decision::effort` meets its contract. Assumes nothing.
use native.Mathlib.Omega.{arith}
use Rattle.decision.specs.Reach as R
use borrow.Author.Rules.{rules}
use Rattle.decision.proofs.effort.Statement.{statement}
use Rattle.decision.proofs.effort.Tie as tie
use Rattle.decision.proofs.effort.Reads as reads
use Rattle.decision.proofs.effort.Lts as lts
use Rattle.decision.proofs.share.Reads as share-reads

returns : tie.Need-returns
unfolding R.effort
returns c = omega (arith, c.share.ensures)

pub effort_spec : {M : Type 1} → statement M
effort_spec =
    tie.close (tie.spec (λ c. search rules) (λ c. search rules) (λ c κs. search rules) (λ c. search rules) (λ c. search rules) returns)
