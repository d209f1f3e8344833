-- `influence::var_at` meets its contract. Assumes nothing.
use mathlib.Core.Path.{ap, ◌∙◌}
use Rattle.literals.specs.declared.Lit.{Lit}
use borrow.Author.Rules.{rules}
use Rattle.influence.proofs.var_at.Statement.{statement}
use Rattle.influence.proofs.var_at.Tie as tie

returns : tie.Need-returns
returns c = c.var.ensures ∙ ap (λ (l : Lit). l.0) c.from_word.ensures

pub var_at_spec : {M : Type 1} → statement M
var_at_spec =
    tie.close
    (tie.spec (λ c. search rules) (λ c. search rules) (λ c κs. search rules) (λ c κs. search rules) returns)
