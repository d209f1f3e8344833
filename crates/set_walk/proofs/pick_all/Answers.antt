use Rattle.std.proofs.Common.{◌∙◌, arith}
use Rattle.diagrams.specs.States.{state_of}
use Rattle.set_walk.specs.Start.{pick_all}
use Rattle.set_walk.proofs.Picks.{full-leaves, all_none, all-full, all_more}
use Rattle.set_walk.proofs.pick_all.Goals as goal

pub returns-in_err-from : goal.returns-in_err-from
returns-in_err-from c =
    let a = c.args in
    full-leaves c.pick.new.w c.from_residual.result c.pick.new.bits (pick_all a.frees.now (state_of a.w.now) a.e a.bits.now)
    c.from_residual.ensures.0
    (all-full a.frees.now c.loop-v.v-index (state_of c.loop-v.w) c.loop-v.from c.loop-v.bits (state_of c.pick.new.w) c.pick.new.bits
    c.loop-v-test.true c.in_err-from.ensures ∙ c.loop-v.invariant)

pub loop-v-preserved : goal.loop-v-preserved
loop-v-preserved c =
    let a = c.args in
    all_more a.frees.now c.loop-v.v-index (state_of c.loop-v.w) c.loop-v.from c.loop-v.bits (state_of c.pick.new.w) c.in_ok-from.from
    c.pick.new.bits c.loop-v-test.true c.in_ok-from.ensures ∙ c.loop-v.invariant

pub returns : goal.returns
returns c =
    let a = c.args in
    all_none a.frees.now c.loop-v.v-index (state_of c.loop-v.w) c.loop-v.from c.loop-v.bits (omega (arith, c.loop-v-test.false))
    ∙ c.loop-v.invariant
