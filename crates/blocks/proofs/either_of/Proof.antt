-- `blocks::either_of` meets its contract. Assumes nothing.
use borrow.Author.Tests.{eq-eqb, ne_eqb}
use Rattle.blocks.proofs.either_of.Statement.{statement}
use Rattle.blocks.proofs.either_of.Tie as tie

returns : tie.Need-returns-then-byte-eq120
returns c = rw (eq-eqb c.args.byte 120 c.if-byte-eq120.true)

returns-2 : tie.Need-returns-else-byte-eq120
returns-2 c = rw (ne_eqb c.args.byte 120 c.if-byte-eq120.false)

pub either_of_spec : {M : Type 1} → statement M
either_of_spec = tie.close (tie.spec returns returns-2)
