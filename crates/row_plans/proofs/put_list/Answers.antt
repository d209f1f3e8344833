use Rattle.std.proofs.Common.{◌≡◌, ap, ◌∙◌, ℕ, ◌+◌, ◌-◌, cond, map, get_or, arith}
use Rattle.std.proofs.lemmas.List.Edits.{sets}
use Rattle.aiger.specs.Lists.{upto}
use Rattle.aiger.specs.Bits.{odd}
use Rattle.row_plans.proofs.Steps.{turned_more}
use Rattle.row_plans.proofs.put_list.Goals as goal

pub loop-k-preserved : goal.loop-k-preserved
loop-k-preserved c =
    let a = c.args in
    c.put.ensures
    ∙ turned_more (odd a.which) a.n c.loop-k.k a.at a.list.now a.plan.now c.loop-k.plan c.turned_at-x.result c.turned_at-x.ensures
    c.loop-k.invariant

pub returns : goal.returns
returns c =
    let a = c.args in
    let e : c.loop-k.k ≡ a.n = omega (arith, c.loop-k.auto.k-end, c.loop-k-test.false) in
    c.loop-k.invariant
    ∙ ap (λ (m : ℕ). sets a.plan.now a.at (map (λ i. get_or a.list.now (cond (odd a.which) (a.n - (i + 1)) i) 0) (upto m))) e
