-- `limits::check_line` meets its contract: each refusal by the first test that fails. Assumes nothing.
use Rattle.std.proofs.Common.{arith}
use Rattle.std.proofs.lemmas.Bool.{not_from_true, not_from_false}
use borrow.Author.Tests.{not-true, not-false}
use Rattle.aiger.proofs.Tests.{T_true}
use Rattle.limits.proofs.Refusals.{bad-refused, bound-refused, budget-refused, line-passes}
use Rattle.limits.proofs.check_line.Goals as goal

pub returns-then-layout-b : goal.returns-then-layout-b
returns-then-layout-b c =
    let a = c.args in record { tests = λ x e. bad-refused x a.b a.k a.budget (omega (arith, e.bads)); within = tt }

pub returns-then-k-gt255 : goal.returns-then-k-gt255
returns-then-k-gt255 c =
    let a = c.args in record { tests = λ x e. bound-refused x a.b a.k a.budget (omega (arith, e.bads)) (omega arith); within = tt }

pub returns-then-not-budget : goal.returns-then-not-budget
returns-then-not-budget c =
    let a = c.args in
    record {
      tests = λ x e. budget-refused x a.b a.k a.budget (omega (arith, e.bads)) (omega arith) (not-true a.budget (not_from_false _ c.if-not-budget.true));
      within = tt;
    }

pub returns : goal.returns
returns c =
    let a = c.args in
    let right = not-false a.budget (not_from_true _ c.if-not-budget.false) in
    record {
      tests = λ x e. line-passes x a.b a.k a.budget (omega (arith, e.bads)) (omega arith) right;
      within = record { bad = omega arith; bound = omega arith; right = T_true right };
    }
