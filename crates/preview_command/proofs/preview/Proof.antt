-- `preview_command::preview` meets its contract. Assumes nothing.
use native.Mathlib.Omega.{arith}
use Rattle.load.proofs.Previews.{words-few}
use Rattle.preview_command.proofs.Answers.{preview-leaves}
use borrow.Author.Rules.{rules}
use Rattle.preview_command.proofs.preview.Statement.{statement}
use Rattle.preview_command.proofs.preview.Tie as tie

write-judgement-requires : tie.Need-write_judgement-requires
write-judgement-requires c κs = (omega (arith, c.preview.ensures.needed, words-few c.args.file.now), c.requires.1, c.requires.2)

returns : tie.Need-returns
returns c = let w = c.write_judgement.ensures in preview-leaves c.preview.ensures c.requires.0 w.0 w.1

pub preview_spec : {M : Type 1} → statement M
preview_spec =
    tie.close
    (tie.spec (λ c κs. search rules) write-judgement-requires (λ c. search rules) (λ c. search rules) returns)
