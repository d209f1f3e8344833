use Rattle.std.proofs.Common.{◌≡◌, ap, ◌∙◌, get_or, arith}
use Rattle.literals.specs.Literal.{literal}
use Rattle.literals.specs.declared.Lit.{Lit}
use Rattle.layout.specs.Words.{circuit_in}
use Rattle.diagram_rows.proofs.Read.{latches-fit, latch-read}
use Rattle.row_plans.specs.Plans.{meeting_of}
use Rattle.row_plans.proofs.Steps.{latches-done, latches-more}
use Rattle.row_plans.proofs.meet_latches.Goals as goal

pub triple_at-l-requires : goal.triple_at-l-requires
triple_at-l-requires c = (latches-fit c.requires, omega arith)

pub loop-j-preserved : goal.loop-j-preserved
loop-j-preserved c =
    let a = c.args in
    let i = c.loop-j.j-index in
    let v = ap (λ (x : Lit). x.0.0) (c.triple_at-l.ensures ∙ ap literal (latch-read c.requires (get_or a.latches.now i 0))) in
    latches-more (circuit_in a.m.now) a.latches.now i (meeting_of c.loop-j.marks c.loop-j.list c.loop-j.n)
    (meeting_of c.meet-n.new.marks c.meet-n.new.list c.meet-n.result) c.triple_at-l.result.0.0 c.loop-j-test.true v c.meet-n.ensures
    ∙ c.loop-j.invariant

pub returns : goal.returns
returns c =
    let a = c.args in
    latches-done (circuit_in a.m.now) a.latches.now c.loop-j.j-index (meeting_of c.loop-j.marks c.loop-j.list c.loop-j.n)
    (omega (arith, c.loop-j-test.false)) ∙ c.loop-j.invariant
