-- `floor::later` meets its contract. Assumes nothing.
use borrow.Author.Tests.{eq-eqb, le-ltb, lt-ltb, ne_eqb}
use Rattle.floor.specs.Place as P
use borrow.Author.Rules.{rules}
use Rattle.floor.proofs.later.Statement.{statement}
use Rattle.floor.proofs.later.Tie as tie

returns : tie.Need-returns-then-l-opposite
unfolding P.later
returns c = rw (← c.opposite.ensures, eq-eqb _ _ c.if-l-opposite.true)

returns-2 : tie.Need-returns-then-top-l
unfolding P.later
returns-2 c = rw (← c.opposite.ensures, ne_eqb _ _ c.if-l-opposite.false, lt-ltb _ _ c.if-top-l.true)

returns-3 : tie.Need-returns-else-top-l
unfolding P.later
returns-3 c = rw (← c.opposite.ensures, ne_eqb _ _ c.if-l-opposite.false, le-ltb _ _ c.if-top-l.false)

pub later_spec : {M : Type 1} → statement M
later_spec = tie.close (tie.spec (λ c κs. search rules) returns returns-2 returns-3)
