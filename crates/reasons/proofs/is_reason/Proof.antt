-- `reasons::is_reason` meets its contract. Assumes nothing.
use borrow.Author.Tests.{eq-eqb, ne_eqb}
use Rattle.reasons.specs.Reason as R
use Rattle.reasons.proofs.is_reason.Statement.{statement}
use Rattle.reasons.proofs.is_reason.Tie as tie

returns : tie.Need-returns-then-r-eq3
unfolding R.is_reason
returns c = rw (eq-eqb _ _ c.if-r-eq3.true)

returns-2 : tie.Need-returns-else-r-eq3
unfolding R.is_reason
returns-2 c = rw (ne_eqb _ _ c.if-r-eq3.false)

pub is_reason_spec : {M : Type 1} → statement M
is_reason_spec = tie.close (tie.spec returns returns-2)
