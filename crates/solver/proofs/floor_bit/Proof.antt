-- `solver::floor_bit` meets its contract. Assumes nothing.
use borrow.Author.Tests.{eq-eqb, ne_eqb}
use Rattle.floor.specs.Place.{bit_of}
use borrow.Author.Rules.{rules}
use Rattle.solver.proofs.floor_bit.Statement.{statement}
use Rattle.solver.proofs.floor_bit.Tie as tie
use Rattle.solver.proofs.floor_bit.Reads as reads
use Rattle.solver.proofs.floor_bit.Lts as lts
use Rattle.memory.proofs.field.Reads as field-reads

returns : tie.Need-returns-then-field-eq1
unfolding bit_of
returns c = rw (← c.field.ensures, eq-eqb _ _ c.if-field-eq1.true)

returns-2 : tie.Need-returns-else-field-eq1
unfolding bit_of
returns-2 c = rw (← c.field.ensures, ne_eqb _ _ c.if-field-eq1.false)

pub floor_bit_spec : {M : Type 1} → statement M
floor_bit_spec = tie.close (tie.spec (λ c κs. search rules) returns returns-2)
