-- `row_plans::list_if` meets its contract. Assumes nothing.
use mathlib.Core.Path.{refl}
use Prim.Native.Nat.{◌+◌, ◌-◌}
use borrow.Author.Rules.{rules}
use Rattle.row_plans.proofs.Steps.{if_yes, if_no}
use Rattle.row_plans.proofs.list_if.Statement.{statement}
use Rattle.row_plans.proofs.list_if.Tie as tie

same_length : tie.Need-shape_of-plan-then-passes
same_length c = c.put.auto.work

returns : tie.Need-returns-then-passes
returns c = let a = c.args in if_yes a.passes a.x a.n (a.n + 1) a.plan.now c.put.new.work c.if-passes.true c.put.ensures refl

returns-2 : tie.Need-returns
returns-2 c = let a = c.args in if_no a.passes a.x a.n a.plan.now c.if-passes.false

pub list_if_spec : {M : Type 1} → statement M
list_if_spec =
    tie.close
    (tie.spec (λ c κs. search rules) (λ c. search rules) same_length returns returns-2)
