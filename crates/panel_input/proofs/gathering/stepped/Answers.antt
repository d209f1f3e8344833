-- Each answer is a step. Assumes nothing.
use Rattle.std.proofs.Common.{sym, ◌∙◌, arith}
use Rattle.panel_input.proofs.Keeping.{step-failed, step-ended, step-fed, step_kept}
use Rattle.panel_input.proofs.gathering.stepped.Goals as goal

pub returns-then-has_failed : goal.returns-then-has_failed
returns-then-has_failed c = step-failed c.args.l c.args.r (sym c.has_failed.ensures ∙ c.if-has_failed.true) c.missed_read.ensures

pub returns-then-count_of-eq0 : goal.returns-then-count_of-eq0
returns-then-count_of-eq0 c =
    step-ended c.args.l c.args.r (sym c.has_failed.ensures ∙ c.if-has_failed.false) (omega (arith, c.count_of.ensures, c.if-count_of-eq0.true)) c.input_end.ensures

pub returns-then-b-eq10 : goal.returns-then-b-eq10
returns-then-b-eq10 c =
    step-fed c.args.l c.args.r (sym c.has_failed.ensures ∙ c.if-has_failed.false)
    (λ z. absurd (omega (arith, z, c.count_of.ensures, c.if-count_of-eq0.false))) (omega (arith, c.if-b-eq10.true)) c.line_feed.ensures

pub returns : goal.returns
returns c =
    step_kept c.args.l c.args.r (sym c.has_failed.ensures ∙ c.if-has_failed.false)
    (λ z. absurd (omega (arith, z, c.count_of.ensures, c.if-count_of-eq0.false))) (λ z. absurd (omega (arith, z, c.if-b-eq10.false))) c.keep_byte.ensures
