use Rattle.std.proofs.Common.{◌≡◌, ap, ◌∙◌, get_or, true, false, arith}
use Rattle.literals.specs.Literal.{literal}
use Rattle.layout.specs.Words.{circuit_in}
use Rattle.diagrams.specs.States.{state_of}
use Rattle.diagram_rows.proofs.Read.{latches-fit, latch-read}
use Rattle.diagram_rows.proofs.Follow.{leaves-as, latches-done, latches-full, latches-more}
use Rattle.diagram_rows.proofs.put_latches.Goals as goal

pub triple_at-l-requires : goal.triple_at-l-requires
triple_at-l-requires c = (latches-fit c.requires.prepared, omega arith)

pub overflow_cast-v : goal.overflow_cast-v
overflow_cast-v c = omega (arith, c.requires.latches_len_bound, c.loop-v-test.true)

pub returns-then-not-put_latch : goal.returns-then-not-put_latch
returns-then-not-put_latch c =
    let a = c.args in
    latches-full (circuit_in a.m.now) a.latches.now c.loop-v.v (state_of c.loop-v.w) c.loop-v.edges c.loop-v-test.true c.triple_at-l.result
    (c.triple_at-l.ensures ∙ ap literal (latch-read c.requires.prepared (get_or a.latches.now c.loop-v.v 0))) (state_of c.put_latch.new.w)
    (leaves-as c.put_latch.new.w c.put_latch.new.edges c.put_latch.result false c.if-not-put_latch.true ∙ c.put_latch.ensures)
    ∙ c.loop-v.invariant

pub loop-v-preserved : goal.loop-v-preserved
loop-v-preserved c =
    let a = c.args in
    latches-more (circuit_in a.m.now) a.latches.now c.loop-v.v (state_of c.loop-v.w) c.loop-v.edges c.loop-v-test.true c.triple_at-l.result
    (c.triple_at-l.ensures ∙ ap literal (latch-read c.requires.prepared (get_or a.latches.now c.loop-v.v 0))) (state_of c.put_latch.new.w)
    c.put_latch.new.edges
    (leaves-as c.put_latch.new.w c.put_latch.new.edges c.put_latch.result true c.if-not-put_latch.false ∙ c.put_latch.ensures)
    ∙ c.loop-v.invariant

pub returns : goal.returns
returns c =
    let a = c.args in
    latches-done (circuit_in a.m.now) a.latches.now c.loop-v.v (state_of c.loop-v.w) c.loop-v.edges (omega (arith, c.loop-v-test.false))
    ∙ c.loop-v.invariant
