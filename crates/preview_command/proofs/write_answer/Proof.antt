-- `preview_command::write_answer` meets its contract. Assumes nothing.
use borrow.Author.Rules.{rules}
use Rattle.preview_command.proofs.write_answer.Statement.{statement}
use Rattle.preview_command.proofs.write_answer.Tie as tie

returns : tie.Need-returns-in-Loaded
returns c = rw c.in-Loaded.is c.write_counts.ensures

returns-2 : tie.Need-returns-in-Refused
returns-2 c = rw c.in-Refused.is c.write_refusal.ensures

pub write_answer_spec : {M : Type 1} → statement M
write_answer_spec =
    tie.close
    (tie.spec (λ c. search rules) (λ c κs. search rules) (λ c. search rules) (λ c κs. search rules) (λ c. search rules) returns (λ c. search rules) returns-2)
