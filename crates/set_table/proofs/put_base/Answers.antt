use Rattle.std.proofs.Common.{◌∙◌, arith}
use Rattle.layout.specs.Words.{circuit_in}
use Rattle.diagram_rows.proofs.Follow.{begun_more}
use Rattle.set_stage.specs.Plans.{reset_word}
use Rattle.set_table.proofs.Resets.{base-whole}
use Rattle.set_table.proofs.put_base.Goals as goal

pub loop-v-init : goal.loop-v-init
loop-v-init c = λ k h. absurd (omega arith)

pub bounds-base-v : goal.bounds-base-v
bounds-base-v c = omega (arith, c.loop-v.auto.base, c.requires.base_len, c.loop-v-test.true)

pub loop-v-preserved : goal.loop-v-preserved
loop-v-preserved c =
    let a = c.args in
    begun_more (reset_word (circuit_in a.m.now)) a.latches.now c.loop-v.v c.loop-v.base c.reset_word.result
    (omega (arith, c.loop-v.auto.base, c.requires.base_len, c.loop-v-test.true)) c.reset_word.ensures.0 c.loop-v.invariant

pub returns : goal.returns
returns c =
    let a = c.args in
    base-whole (circuit_in a.m.now) a.latches.now c.loop-v.base c.loop-v.v (omega (arith, c.loop-v.auto.v-end, c.loop-v-test.false))
    (c.loop-v.auto.base ∙ c.requires.base_len) c.loop-v.invariant
