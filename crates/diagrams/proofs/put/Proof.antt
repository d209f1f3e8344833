-- `diagrams::put` meets its contract. Assumes nothing.
use mathlib.Core.Path.{sym}
use borrow.Author.Rules.{rules}
use lib.Seq.{set_out}
use Rattle.diagrams.proofs.put.Statement.{statement}
use Rattle.diagrams.proofs.put.Tie as tie

returns-2 : tie.Need-returns-else-i-w
returns-2 c = sym (set_out c.args.w.now c.args.i c.args.x c.if-i-w.false)

pub put_spec : {M : Type 1} → statement M
put_spec =
    tie.close
    (tie.spec (λ c. search rules) (λ c. search rules) (λ c. search rules) (λ c. search rules) returns-2)
