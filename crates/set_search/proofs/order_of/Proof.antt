-- `set_search::order_of` meets its contract. Assumes nothing.
use native.Mathlib.Omega.{arith}
use borrow.Author.Rules.{rules}
use Rattle.set_search.proofs.Turns.{last-order}
use Rattle.set_search.proofs.order_of.Statement.{statement}
use Rattle.set_search.proofs.order_of.Tie as tie

returns-4 : tie.Need-returns-in_default
returns-4 c = last-order c.args.i (omega (arith, c.requires)) (omega arith)

pub order_of_spec : {M : Type 1} → statement M
order_of_spec =
    tie.close
    (tie.spec (λ c. search rules) (λ c. search rules) (λ c. search rules) returns-4)
