-- `commands::write_loaded` meets its contract. Assumes nothing.
use mathlib.Core.Path.{ap}
use Rattle.write.specs.Answer.{answered}
use Rattle.commands.proofs.Answers.{write-shown, write-never}
use borrow.Author.Rules.{rules}
use Rattle.commands.proofs.write_loaded.Statement.{statement}
use Rattle.commands.proofs.write_loaded.Tie as tie

returns : tie.Need-returns-in-Length
returns c =
    write-shown c.args.form c.requires.3 c.requires.0 c.requires.1 c.write.ensures c.args.line.now (ap answered c.in-Length.is)

returns-2 : tie.Need-returns-in-Refused
returns-2 c =
    absurd (write-never c.args.form c.requires.3 c.requires.0 c.requires.1 c.write.ensures (ap answered c.in-Refused.is))

pub write_loaded_spec : {M : Type 1} → statement M
write_loaded_spec =
    tie.close
    (tie.spec (λ c κs. search rules) (λ c. search rules) (λ c. search rules) (λ c κs. search rules) (λ c. search rules) returns (λ c. search rules) (λ c. search rules) returns-2)
