-- `floor::show` meets its contract. Assumes nothing.
use Rattle.floor.specs.Place as P
use borrow.Author.Rules.{rules}
use Rattle.floor.proofs.show.Statement.{statement}
use Rattle.floor.proofs.show.Tie as tie

returns : tie.Need-returns
returns c = record { words = c.evaluate.ensures; true = rw (← c.evaluate.ensures, ← c.edge.ensures) }

pub show_spec : {M : Type 1} → statement M
show_spec = tie.close (tie.spec (λ c κs. search rules) (λ c κs. search rules) (λ c. search rules) returns)
