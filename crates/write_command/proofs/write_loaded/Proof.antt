-- `write_command::write_loaded` meets its contract. Assumes nothing.
use borrow.Author.Rules.{rules}
use Rattle.write_command.proofs.write_loaded.Statement.{statement}
use Rattle.write_command.proofs.write_loaded.Tie as tie

returns : tie.Need-returns-then-binary
returns c = rw c.if-binary.true c.write_loaded.ensures

returns-2 : tie.Need-returns-else-binary
returns-2 c = rw c.if-binary.false c.write_loaded-else-binary.ensures

pub write_loaded_spec : {M : Type 1} → statement M
write_loaded_spec =
    tie.close
    (tie.spec (λ c κs. search rules) (λ c κs. search rules) (λ c. search rules) (λ c. search rules) returns (λ c. search rules) (λ c. search rules) returns-2)
