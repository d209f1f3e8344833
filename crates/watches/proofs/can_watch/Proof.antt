-- `watches::can_watch` meets its contract. Assumes nothing.
use borrow.Author.Tests.{eq-eqb, ne_eqb}
use Rattle.watches.specs.Watch as W
use borrow.Author.Rules.{rules}
use Rattle.watches.proofs.can_watch.Statement.{statement}
use Rattle.watches.proofs.can_watch.Tie as tie

returns : tie.Need-returns-then-x-o
unfolding W.can_watch
returns c = rw (eq-eqb _ _ c.if-x-o.true)

returns-2 : tie.Need-returns
unfolding W.can_watch
returns-2 c = rw (← c.value.ensures, ne_eqb _ _ c.if-x-o.false)

pub can_watch_spec : {M : Type 1} → statement M
can_watch_spec = tie.close (tie.spec returns (λ c κs. search rules) returns-2)
