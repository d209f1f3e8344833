-- `search_command::write_note` meets its contract: a note for none alone. Assumes nothing.
use borrow.Author.Rules.{rules}
use Rattle.search_command.proofs.write_note.Statement.{statement}
use Rattle.search_command.proofs.write_note.Tie as tie

returns : tie.Need-returns-in-Nothing
returns c = rw c.in-Nothing.is c.put_note.ensures

pub write_note_spec : {M : Type 1} → statement M
write_note_spec =
    tie.close
    (tie.spec (λ c. search rules) (λ c κs. search rules) (λ c. search rules) (λ c. search rules) (λ c. search rules) (λ c. search rules) returns (λ c. search rules) (λ c. search rules) (λ c. search rules))
