-- `literals_right` meets its contract: where cause 6 refuses, the table is cleared, and it was so before. Assumes nothing.
use borrow.Author.Rules.{rules}
use Rattle.variables.proofs.Entries.{cleared-same}
use Rattle.variables.proofs.literals_right.Statement.{statement}
use Rattle.variables.proofs.literals_right.Tie as tie

returns : tie.Need-returns-then-test_literals
returns c = rw c.if-test_literals.true at c.test_literals.ensures

returns-2 : tie.Need-returns
returns-2 c = (
  rw c.if-test_literals.false at c.test_literals.ensures,
  cleared-same c.args.table.now c.requires.1.1 c.test_literals.auto.table c.clear.ensures,
)

pub literals_right_spec : {M : Type 1} → statement M
literals_right_spec =
    tie.close
    (tie.spec (λ c κs. search rules) (λ c. search rules) returns (λ c κs. search rules) (λ c. search rules) returns-2)
