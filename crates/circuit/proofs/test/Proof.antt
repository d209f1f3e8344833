-- `circuit::test` meets its contract. Assumes nothing.
use borrow.Author.Rules.{rules}
use Rattle.circuit.proofs.Testing.{tested}
use Rattle.circuit.proofs.test.Statement.{statement}
use Rattle.circuit.proofs.test.Tie as tie

returns : tie.Need-returns
returns c =
    tested c.args.m.now c.held_in.new.order c.held_in.result c.held_in.ensures.0

pub test_spec : {M : Type 1} → statement M
test_spec = tie.close (tie.spec (λ c. search rules) (λ c κs. search rules) returns)
