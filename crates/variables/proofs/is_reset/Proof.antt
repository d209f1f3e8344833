-- `is_reset` meets its contract. Assumes nothing.
use borrow.Author.Rules.{rules}
use Rattle.variables.proofs.is_reset.Statement.{statement}
use Rattle.variables.proofs.is_reset.Tie as tie

returns : tie.Need-returns
returns c = rw (c.is_constant.ensures, c.equals.ensures)

pub is_reset_spec : {M : Type 1} → statement M
is_reset_spec =
    tie.close
    (tie.spec (λ c κs. search rules) (λ c κs. search rules) returns)
