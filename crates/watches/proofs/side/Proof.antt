-- `watches::side` meets its contract. Assumes nothing.
use borrow.Author.Tests.{eq-eqb, ne_eqb}
use Rattle.watches.specs.Watch as W
use borrow.Author.Rules.{rules}
use Rattle.watches.proofs.side.Statement.{statement}
use Rattle.watches.proofs.side.Tie as tie

returns : tie.Need-returns-then-head-f
unfolding W.side
returns c = rw (← c.head.ensures, eq-eqb _ _ c.if-head-f.true)

returns-2 : tie.Need-returns-else-head-f
unfolding W.side
returns-2 c = rw (← c.head.ensures, ne_eqb _ _ c.if-head-f.false)

pub side_spec : {M : Type 1} → statement M
side_spec = tie.close (tie.spec (λ c κs. search rules) returns returns-2)
