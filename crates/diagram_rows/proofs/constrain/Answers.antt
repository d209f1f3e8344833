use Rattle.std.proofs.Common.{◌≡◌, ap, ◌∙◌, ◌<◌, length, arith}
use Rattle.literals.specs.Literal.{literal}
use Rattle.layout.specs.Words.{circuit_in}
use Rattle.diagrams.specs.States.{state_of}
use Rattle.diagrams.proofs.Follow.{full-left}
use Rattle.diagram_rows.specs.Rows.{with_literals}
use Rattle.diagram_rows.proofs.Read.{constraint-read, constraint-fits, constraint-number}
use Rattle.diagram_rows.proofs.Follow.{lines-done, lines-full, lines_more}
use Rattle.diagram_rows.proofs.constrain.Goals as goal

pub bounds-m-constraints : goal.bounds-m-constraints
bounds-m-constraints c = omega (arith, constraint-fits c.requires c.loop-k.k c.loop-k-test.true)

pub returns-in_err-con : goal.returns-in_err-con
returns-in_err-con c =
    let a = c.args in
    let h : c.loop-k.k < length (circuit_in a.m.now).constraints = omega (arith, c.loop-k-test.true, constraint-number c.requires) in
    full-left c.with_literal.new.w c.from_residual.result
    (with_literals a.edges.now (circuit_in a.m.now).constraints (state_of a.w.now) 1) c.from_residual.ensures.0
    (lines-full a.edges.now (circuit_in a.m.now).constraints c.loop-k.k (state_of c.loop-k.w) c.loop-k.con h c.from_word.result
    (c.from_word.ensures ∙ ap literal (constraint-read c.requires c.loop-k.k c.loop-k-test.true)) (state_of c.with_literal.new.w)
    c.in_err-con.ensures ∙ c.loop-k.invariant)

pub loop-k-preserved : goal.loop-k-preserved
loop-k-preserved c =
    let a = c.args in
    let h : c.loop-k.k < length (circuit_in a.m.now).constraints = omega (arith, c.loop-k-test.true, constraint-number c.requires) in
    lines_more a.edges.now (circuit_in a.m.now).constraints c.loop-k.k (state_of c.loop-k.w) c.loop-k.con h c.from_word.result
    (c.from_word.ensures ∙ ap literal (constraint-read c.requires c.loop-k.k c.loop-k-test.true)) (state_of c.with_literal.new.w)
    c.in_ok-con.con c.in_ok-con.ensures ∙ c.loop-k.invariant

pub returns : goal.returns
returns c =
    let a = c.args in
    lines-done a.edges.now (circuit_in a.m.now).constraints c.loop-k.k (state_of c.loop-k.w) c.loop-k.con
    (omega (arith, c.loop-k-test.false, constraint-number c.requires)) ∙ c.loop-k.invariant
