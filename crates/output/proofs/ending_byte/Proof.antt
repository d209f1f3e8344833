-- `output::ending_byte` meets its contract. Assumes nothing.
use borrow.Author.Tests.{eq-eqb, ne_eqb}
use Rattle.output.proofs.ending_byte.Statement.{statement}
use Rattle.output.proofs.ending_byte.Tie as tie

returns : tie.Need-returns-then-left-eq0
returns c = rw (eq-eqb c.args.left 0 c.if-left-eq0.true)

returns-2 : tie.Need-returns
returns-2 c = rw (ne_eqb c.args.left 0 c.if-left-eq0.false)

pub ending_byte_spec : {M : Type 1} → statement M
ending_byte_spec = tie.close (tie.spec returns returns-2)
