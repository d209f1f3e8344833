-- `choices::ordered` meets its contract. Assumes nothing.
use borrow.Author.Rules.{rules}
use Rattle.choices.proofs.ordered.Statement.{statement}
use Rattle.choices.proofs.ordered.Tie as tie

returns : tie.Need-returns
returns c = rw c.sum.ensures

pub ordered_spec : {M : Type 1} → statement M
ordered_spec = tie.close (tie.spec (λ c κs. search rules) returns)
