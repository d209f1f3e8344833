use Rattle.std.proofs.Common.{arith}
use Rattle.set_table.proofs.Distinct.{new-more, new-not, new-all}
use Rattle.set_table.proofs.are_distinct.Goals as goal

pub loop-v-init : goal.loop-v-init
loop-v-init c = tt

pub returns-then-rank_of-v : goal.returns-then-rank_of-v
returns-then-rank_of-v c =
    new-not c.args.xs.now c.loop-v.v c.loop-v-test.true c.rank_of.result c.rank_of.ensures c.if-rank_of-v.true

pub loop-v-preserved : goal.loop-v-preserved
loop-v-preserved c =
    new-more c.args.xs.now c.loop-v.v c.loop-v-test.true c.rank_of.result c.rank_of.ensures c.if-rank_of-v.false c.loop-v.invariant

pub returns : goal.returns
returns c = new-all c.args.xs.now c.loop-v.v (omega (arith, c.loop-v-test.false)) c.loop-v.invariant
