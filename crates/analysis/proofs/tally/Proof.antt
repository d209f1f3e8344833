-- `analysis::tally` meets its contract. Assumes nothing.
use borrow.Author.Tests.{eq-eqb, ne_eqb}
use Rattle.analysis.specs.Analysis as S
use borrow.Author.Rules.{rules}
use Rattle.analysis.proofs.tally.Statement.{statement}
use Rattle.analysis.proofs.tally.Tie as tie

returns : tie.Need-returns-then-field-level
unfolding S.tallied
returns c = rw (← c.field.ensures, eq-eqb _ _ c.if-field-level.true) c.sum.ensures

returns-2 : tie.Need-returns
unfolding S.tallied
returns-2 c = rw (← c.field.ensures, ne_eqb _ _ c.if-field-level.false)

pub tally_spec : {M : Type 1} → statement M
tally_spec = tie.close (tie.spec (λ c κs. search rules) (λ c κs. search rules) returns returns-2)
