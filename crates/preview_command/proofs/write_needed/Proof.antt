-- `preview_command::write_needed` meets its contract. Assumes nothing.
use native.Mathlib.Omega.{arith}
use Rattle.preview_command.proofs.Answers.{words-none, words-some}
use borrow.Author.Rules.{rules}
use Rattle.preview_command.proofs.write_needed.Statement.{statement}
use Rattle.preview_command.proofs.write_needed.Tie as tie

returns : tie.Need-returns-then-needed-eq0
returns c = let a = c.args in words-none a.needed a.out.now (omega arith)

returns-2 : tie.Need-returns
returns-2 c = words-some c.args.needed (omega arith) c.write_line.ensures

pub write_needed_spec : {M : Type 1} → statement M
write_needed_spec =
    tie.close
    (tie.spec returns (λ c. search rules) (λ c κs. search rules) (λ c. search rules) returns-2)
