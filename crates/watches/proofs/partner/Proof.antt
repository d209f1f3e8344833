-- `watches::partner` meets its contract. Assumes nothing.
use borrow.Author.Tests.{eq-eqb, ne_eqb}
use Rattle.watches.specs.Watch as W
use borrow.Author.Rules.{rules}
use Rattle.watches.proofs.partner.Statement.{statement}
use Rattle.watches.proofs.partner.Tie as tie

returns : tie.Need-returns-then-s-eq0
unfolding W.partner
returns c = rw (eq-eqb _ _ c.if-s-eq0.true) c.head.ensures

returns-2 : tie.Need-returns-else-s-eq0
unfolding W.partner
returns-2 c = rw (ne_eqb _ _ c.if-s-eq0.false) c.head-else-s-eq0.ensures

pub partner_spec : {M : Type 1} → statement M
partner_spec = tie.close (tie.spec (λ c κs. search rules) (λ c κs. search rules) returns returns-2)
