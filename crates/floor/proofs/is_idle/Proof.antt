-- `floor::is_idle` meets its contract. Assumes nothing.
use Rattle.floor.specs.Place as P
use borrow.Author.Rules.{rules}
use Rattle.floor.proofs.is_idle.Statement.{statement}
use Rattle.floor.proofs.is_idle.Tie as tie

returns : tie.Need-returns
unfolding P.is_idle
returns c = rw (c.field.ensures, c.field-2.ensures)

pub is_idle_spec : {M : Type 1} → statement M
is_idle_spec =
    tie.close
    (tie.spec (λ c κs. search rules) (λ c κs. search rules) returns)
