-- `search::check_search` meets its contract: the tests 10 to 12, then the length of the output. Assumes nothing.
use Rattle.std.proofs.Common.{◌≡◌, ◌∙◌, subst, Bool, ℕ, [], ◌∷◌, arith}
use Rattle.std.proofs.lemmas.Result.{err_from_is_err_and}
use lib.Dec.{leb}
use Rattle.aiger.specs.Circuit.{Circuit}
use Rattle.aiger.specs.Load.{Answer}
use Rattle.aiger.specs.Witness.{witness_length}
use Rattle.aiger.specs.Operations.{need, judge, budget_right, bound_tests}
use Rattle.limits.proofs.Sizes.{length-is}
use Rattle.limits.proofs.Refusals.{judge-refused, length-refused, length-passes}
use Rattle.search.proofs.check_search.Goals as goal

-- the tests 10 to 12 with the test of the budget in place of its result
bounded : (x : Circuit) (b k d room : ℕ) {s : Bool} {w : Answer (Unit {0})} → s ≡ budget_right d → judge (bound_tests x b k s room) ≡ w
    → judge (bound_tests x b k (budget_right d) room) ≡ w
bounded x b k d room {w = w} e h = subst (λ (p : Bool). judge (bound_tests x b k p room) ≡ w) e h

pub returns-in_err-check_bounds : goal.returns-in_err-check_bounds
returns-in_err-check_bounds c =
    let a = c.args in
    let p = err_from_is_err_and c.from_residual.result c.from_residual.ensures.1 in
    rw (p.1, p.2)
    (
    λ x e.
    judge-refused (bound_tests x a.b a.k (budget_right a.d) a.room) (need 13 (leb (witness_length x a.b a.k) a.len) ∷ []) _
    (bounded x a.b a.k a.d a.room c.is_budget-budget.ensures (c.in_err-check_bounds.ensures.tests x e))
    )

pub returns-then-len-witness_length : goal.returns-then-len-witness_length
returns-then-len-witness_length c =
    let a = c.args in
    λ x e.
    let l = c.witness_length.ensures ∙ length-is e a.b a.k in
    length-refused (bound_tests x a.b a.k (budget_right a.d) a.room)
    (bounded x a.b a.k a.d a.room c.is_budget-budget.ensures (c.in_ok-check_bounds.ensures.tests x e)) (witness_length x a.b a.k) a.len
    (omega (arith, c.if-len-witness_length.true))

pub returns : goal.returns
returns c =
    let a = c.args in
    λ x e.
    let l = c.witness_length.ensures ∙ length-is e a.b a.k in
    length-passes (bound_tests x a.b a.k (budget_right a.d) a.room)
    (bounded x a.b a.k a.d a.room c.is_budget-budget.ensures (c.in_ok-check_bounds.ensures.tests x e)) (witness_length x a.b a.k) a.len
    (omega (arith, c.if-len-witness_length.false))
