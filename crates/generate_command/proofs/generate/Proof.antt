-- `generate_command::generate` meets its contract. Assumes nothing.
use native.Mathlib.Omega.{arith}
use Rattle.generate_command.proofs.Answers.{printed, told}
use borrow.Author.Rules.{rules}
use Rattle.generate_command.proofs.generate.Statement.{statement}
use Rattle.generate_command.proofs.generate.Tie as tie

returns : tie.Need-returns-in-Length
returns c = printed (rw c.in-Length.is at c.generate.ensures)

returns-2 : tie.Need-returns-in-Refused
returns-2 c =
    told c.refuse.result c.requires.0 (rw c.in-Refused.is at c.generate.ensures)
    c.refuse.ensures.0 c.refuse.ensures.1

pub generate_spec : {M : Type 1} → statement M
generate_spec =
    tie.close
    (tie.spec (λ c κs. search rules) (λ c. search rules) (λ c. search rules) (λ c. search rules) (λ c κs. search rules) (λ c. search rules) returns (λ c. search rules) (λ c. search rules) returns-2)
