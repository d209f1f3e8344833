-- `floor::edge` meets its contract. Assumes nothing.
use borrow.Author.Tests.{eq-eqb, ne_eqb}
use Rattle.floor.specs.Place as P
use borrow.Author.Rules.{rules}
use Rattle.floor.proofs.edge.Statement.{statement}
use Rattle.floor.proofs.edge.Tie as tie

returns : tie.Need-returns-then-e-eq0
unfolding P.edge
returns c = rw (← c.field-x.ensures, eq-eqb _ _ c.if-e-eq0.true)

returns-2 : tie.Need-returns-then-x-eq0
unfolding P.edge
returns-2 c = rw (← c.field-x.ensures, ne_eqb _ _ c.if-e-eq0.false, eq-eqb _ _ c.if-x-eq0.true)

returns-3 : tie.Need-returns-else-x-eq0
unfolding P.edge
returns-3 c = rw (← c.field-x.ensures, ne_eqb _ _ c.if-e-eq0.false, ne_eqb _ _ c.if-x-eq0.false)

pub edge_spec : {M : Type 1} → statement M
edge_spec = tie.close (tie.spec (λ c κs. search rules) returns returns-2 returns-3)
