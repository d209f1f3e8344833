-- `diagrams::head` meets its contract. Assumes nothing.
use mathlib.Core.Path.{sym, ◌∙◌}
use borrow.Author.Rules.{rules}
use Rattle.diagrams.proofs.View.{head-is}
use Rattle.diagrams.proofs.head.Statement.{statement}
use Rattle.diagrams.proofs.head.Tie as tie

returns : tie.Need-returns
returns c = c.get.ensures ∙ sym (head-is c.args.w.now c.args.h)

pub head_spec : {M : Type 1} → statement M
head_spec =
    tie.close
    (tie.spec (λ c. search rules) (λ c. search rules) (λ c κs. search rules) returns)
