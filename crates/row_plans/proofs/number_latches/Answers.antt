use Rattle.std.proofs.Common.{◌≡◌, ap, ◌∙◌, get_or, arith}
use Rattle.literals.specs.Literal.{literal}
use Rattle.literals.specs.declared.Var.{Var}
use Rattle.literals.specs.declared.Lit.{Lit}
use Rattle.layout.specs.Words.{circuit_in}
use Rattle.diagram_rows.proofs.Read.{latches-fit, latch-read}
use Rattle.row_plans.proofs.Steps.{numbered-done, numbered_more}
use Rattle.row_plans.proofs.number_latches.Goals as goal

pub triple_at-l-requires : goal.triple_at-l-requires
triple_at-l-requires c = (latches-fit c.requires, omega arith)

pub loop-j-preserved : goal.loop-j-preserved
loop-j-preserved c =
    let a = c.args in
    let i = c.loop-j.j-index in
    let v = ap (λ (x : Var). x.0) c.var-v.ensures
    ∙ ap (λ (x : Lit). x.0.0) (c.triple_at-l.ensures ∙ ap literal (latch-read c.requires (get_or a.latches.now i 0))) in
    numbered_more (circuit_in a.m.now) a.latches.now i c.loop-j.marks c.put.new.work c.var-v.result.0 c.loop-j-test.true v c.put.ensures
    ∙ c.loop-j.invariant

pub returns : goal.returns
returns c =
    let a = c.args in
    numbered-done (circuit_in a.m.now) a.latches.now c.loop-j.j-index c.loop-j.marks (omega (arith, c.loop-j-test.false)) ∙ c.loop-j.invariant
