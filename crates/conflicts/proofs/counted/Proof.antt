-- `conflicts::counted` meets its contract. Assumes nothing.
use borrow.Author.Rules.{rules}
use Rattle.conflicts.proofs.counted.Statement.{statement}
use Rattle.conflicts.proofs.counted.Tie as tie

returns : tie.Need-returns
returns c = rw c.sum.ensures

pub counted_spec : {M : Type 1} → statement M
counted_spec = tie.close (tie.spec (λ c κs. search rules) returns)
