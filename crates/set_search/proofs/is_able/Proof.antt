-- `set_search::is_able` meets its contract. Assumes nothing.
use borrow.Author.Rules.{rules}
use Rattle.set_search.proofs.is_able.Statement.{statement}
use Rattle.set_search.proofs.is_able.Tie as tie

put-plan-requires : tie.Need-put_plan-requires
put-plan-requires c κs = (c.requires.0, c.requires.1)

returns : tie.Need-returns
returns c = c.put_plan.ensures.able

pub is_able_spec : {M : Type 1} → statement M
is_able_spec =
    tie.close
    (tie.spec (λ c. search rules) put-plan-requires returns)
