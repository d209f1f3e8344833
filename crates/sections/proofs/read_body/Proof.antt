-- `sections::read_body` meets its contract. Assumes nothing.
use borrow.Author.Rules.{rules}
use Rattle.sections.proofs.read_body.Statement.{statement}
use Rattle.sections.proofs.read_body.Tie as tie

returns : tie.Need-returns-then-binary
returns c = rw c.if-binary.true c.read_binary.ensures

returns-2 : tie.Need-returns
returns-2 c = rw c.if-binary.false c.read_text.ensures

pub read_body_spec : {M : Type 1} → statement M
read_body_spec =
    tie.close
    (tie.spec (λ c κs. search rules) (λ c. search rules) returns (λ c κs. search rules) (λ c. search rules) returns-2)
