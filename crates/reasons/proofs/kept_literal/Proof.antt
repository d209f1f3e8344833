-- `reasons::kept_literal` meets its contract. Assumes nothing.
use borrow.Author.Rules.{rules}
use Rattle.reasons.proofs.kept_literal.Statement.{statement}
use Rattle.reasons.proofs.kept_literal.Tie as tie

returns : tie.Need-returns
returns c = rw (← c.head.ensures) c.literal.ensures

pub kept_literal_spec : {M : Type 1} → statement M
kept_literal_spec = tie.close (tie.spec (λ c κs. search rules) (λ c κs. search rules) returns)
