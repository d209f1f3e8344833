use Rattle.std.proofs.Common.{◌≡◌, sym, ap, ◌∙◌, get_or, arith}
use Rattle.literals.specs.Literal.{literal}
use Rattle.layout.specs.Words.{circuit_in}
use Rattle.diagram_rows.specs.Rows.{is_present, next_literal}
use Rattle.diagram_rows.proofs.Read.{latches-fit, next-read}
use Rattle.diagram_rows.proofs.Follow.{every-done, every-stop, every_more}
use Rattle.diagram_rows.proofs.are_present.Goals as goal

pub triple_at-l-requires : goal.triple_at-l-requires
triple_at-l-requires c = (latches-fit c.requires, omega arith)

pub returns-then-not-is_present : goal.returns-then-not-is_present
returns-then-not-is_present c =
    let a = c.args in
    let i = c.loop-j.j-index in
    let t = c.triple_at-l.ensures ∙ ap literal (next-read c.requires (get_or a.latches.now i 0)) in
    every-stop (λ j. is_present a.edges.now (next_literal (circuit_in a.m.now) j)) a.latches.now i c.loop-j-test.true
    (sym (c.is_present.ensures ∙ ap (is_present a.edges.now) t) ∙ c.if-not-is_present.true)
    ∙ c.loop-j.invariant

pub loop-j-preserved : goal.loop-j-preserved
loop-j-preserved c =
    let a = c.args in
    let i = c.loop-j.j-index in
    let t = c.triple_at-l.ensures ∙ ap literal (next-read c.requires (get_or a.latches.now i 0)) in
    every_more (λ j. is_present a.edges.now (next_literal (circuit_in a.m.now) j)) a.latches.now i c.loop-j-test.true
    (sym (c.is_present.ensures ∙ ap (is_present a.edges.now) t) ∙ c.if-not-is_present.false)
    ∙ c.loop-j.invariant

pub returns : goal.returns
returns c =
    let a = c.args in
    every-done (λ j. is_present a.edges.now (next_literal (circuit_in a.m.now) j)) a.latches.now c.loop-j.j-index
    (omega (arith, c.loop-j-test.false)) ∙ c.loop-j.invariant
