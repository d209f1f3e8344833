-- `row_plans::mark_of` meets its contract. Assumes nothing.
use mathlib.Core.Path.{ap, ◌∙◌}
use Prim.Native.Nat.{◌-◌}
use borrow.Author.Rules.{rules}
use lib.ListN.{get_or}
use Rattle.literals.specs.declared.Var.{Var}
use Rattle.row_plans.proofs.mark_of.Statement.{statement}
use Rattle.row_plans.proofs.mark_of.Tie as tie

returns : tie.Need-returns
returns c = let a = c.args in c.get.ensures ∙ ap (λ (v : Var). get_or a.marks.now v.0 0) c.var-v.ensures

pub mark_of_spec : {M : Type 1} → statement M
mark_of_spec =
    tie.close
    (tie.spec (λ c κs. search rules) (λ c. search rules) (λ c κs. search rules) returns)
