use Rattle.std.proofs.Common.{◌≡◌, ap, ◌∙◌, ◌<◌, length, arith}
use Rattle.layout.specs.Words.{circuit_in}
use Rattle.diagrams.specs.States.{state_of}
use Rattle.diagrams.proofs.Follow.{full-left}
use Rattle.set_stage.specs.Table.{with_resets}
use Rattle.set_table.proofs.Resets.{resets-done, resets-full, resets_more}
use Rattle.set_table.proofs.with_resets.Goals as goal

pub overflow_cast-v : goal.overflow_cast-v
overflow_cast-v c = omega (arith, c.requires.latches_len_bound, c.loop-v-test.true)

pub returns-in_err-e : goal.returns-in_err-e
returns-in_err-e c =
    let a = c.args in
    full-left c.with_reset.new.w c.from_residual.result (with_resets (circuit_in a.m.now) 0 a.latches.now (state_of a.w.now) 1)
    c.from_residual.ensures.0
    (resets-full (circuit_in a.m.now) a.latches.now c.loop-v.v (state_of c.loop-v.w) c.loop-v.e c.loop-v-test.true
    (state_of c.with_reset.new.w) c.in_err-e.ensures ∙ c.loop-v.invariant)

pub loop-v-preserved : goal.loop-v-preserved
loop-v-preserved c =
    let a = c.args in
    resets_more (circuit_in a.m.now) a.latches.now c.loop-v.v (state_of c.loop-v.w) c.loop-v.e c.loop-v-test.true
    (state_of c.with_reset.new.w) c.in_ok-e.e c.in_ok-e.ensures ∙ c.loop-v.invariant

pub returns : goal.returns
returns c =
    let a = c.args in
    resets-done (circuit_in a.m.now) a.latches.now c.loop-v.v (state_of c.loop-v.w) c.loop-v.e (omega (arith, c.loop-v-test.false))
    ∙ c.loop-v.invariant
