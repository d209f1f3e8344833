-- `search_command::write_answer` meets its contract: a line for each answer. Assumes nothing.
use borrow.Author.Rules.{rules}
use Rattle.search_command.proofs.write_answer.Statement.{statement}
use Rattle.search_command.proofs.write_answer.Tie as tie

returns : tie.Need-returns-in-Found
returns c = rw c.in-Found.is c.write_line.ensures

returns-2 : tie.Need-returns-in-Nothing
returns-2 c = rw c.in-Nothing.is c.write_line-in-Nothing.ensures

returns-3 : tie.Need-returns-in-Spent
returns-3 c = rw c.in-Spent.is c.write_spent.ensures

returns-4 : tie.Need-returns-in-Refused
returns-4 c = rw c.in-Refused.is c.write_refusal.ensures

pub write_answer_spec : {M : Type 1} → statement M
write_answer_spec =
    tie.close
    (tie.spec (λ c. search rules) (λ c κs. search rules) (λ c. search rules) (λ c κs. search rules) (λ c. search rules) (λ c κs. search rules) (λ c. search rules) (λ c κs. search rules) (λ c. search rules) returns (λ c. search rules) returns-2 (λ c. search rules) returns-3 (λ c. search rules) returns-4)
