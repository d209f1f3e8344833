-- `conflicts::doubled` meets its contract. Assumes nothing.
use borrow.Author.Rules.{rules}
use Rattle.conflicts.proofs.doubled.Statement.{statement}
use Rattle.conflicts.proofs.doubled.Tie as tie

returns : tie.Need-returns
returns c = rw c.sum.ensures

pub doubled_spec : {M : Type 1} → statement M
doubled_spec = tie.close (tie.spec (λ c κs. search rules) returns)
