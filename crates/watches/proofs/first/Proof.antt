-- `watches::first` meets its contract. Assumes nothing.
use borrow.Author.Tests.{eq-eqb, ne_eqb}
use Rattle.watches.specs.Watch as W
use borrow.Author.Rules.{rules}
use Rattle.watches.proofs.first.Statement.{statement}
use Rattle.watches.proofs.first.Tie as tie

returns : tie.Need-returns-then-f-eq0
unfolding W.first
returns c = rw (eq-eqb _ _ c.if-f-eq0.true) c.field.ensures

returns-2 : tie.Need-returns-else-f-eq0
unfolding W.first
returns-2 c = rw (ne_eqb _ _ c.if-f-eq0.false) c.field-else-f-eq0.ensures

pub first_spec : {M : Type 1} → statement M
first_spec = tie.close (tie.spec (λ c κs. search rules) (λ c κs. search rules) returns returns-2)
