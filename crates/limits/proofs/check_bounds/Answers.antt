-- `limits::check_bounds` meets its contract: the tests 10 and 11, then 12. Assumes nothing.
use Rattle.std.proofs.Common.{◌∙◌, [], ◌∷◌}
use Rattle.std.proofs.lemmas.Result.{err_from_is_err_and, on_ok_weaker}
use Rattle.aiger.specs.Operations.{size_test}
use Rattle.limits.specs.Limits.{line_tests, InSize, Within}
use Rattle.limits.proofs.Refusals.{judge-refused, judge-rest}
use Rattle.limits.proofs.check_bounds.Goals as goal

pub returns-in_err-check_line : goal.returns-in_err-check_line
returns-in_err-check_line c =
    let a = c.args in
    let p = err_from_is_err_and c.from_residual.result c.from_residual.ensures.1 in
    rw (p.1, p.2)
    (
    record {
      tests = λ x e. judge-refused (line_tests x a.b a.k a.budget) (size_test x a.k a.room ∷ []) _ (c.in_err-check_line.ensures.tests x e);
      within = tt;
    }
    )

pub returns : goal.returns
returns c =
    let a = c.args in
    let s = c.check_size.ensures in
    let l = c.in_ok-check_line.ensures in
    let w = l.within in
    record {
      tests = λ x e. judge-rest (line_tests x a.b a.k a.budget) (size_test x a.k a.room ∷ []) (l.tests x e) ∙ s.tests x e;
      within = on_ok_weaker {P = InSize a.layout a.k a.room} {Q = Within a.layout a.b a.k a.budget a.room} _ (λ z. record { bad = w.bad; bound = w.bound; right = w.right; small = z.small; words = z.words }) s.within;
    }
