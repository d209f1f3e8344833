-- `bench_record::end_bench`: the bytes below i are cleared. Assumes nothing.
use Rattle.std.proofs.Common.{arith}
use Rattle.bench_bytes.proofs.Ended.{clearing-none, clearing-more, clearing-all}
use Rattle.bench_record.proofs.end_bench.Goals as goal

pub loop-i-init : goal.loop-i-init
loop-i-init c = clearing-none c.args.shared.now c.args.user

pub loop-i-preserved : goal.loop-i-preserved
loop-i-preserved c = clearing-more c.args.shared.now c.loop-i.shared c.args.user c.loop-i.i c.cleared_byte.result c.cleared_byte.ensures (omega arith) c.loop-i.invariant

pub returns : goal.returns
returns c = clearing-all c.args.shared.now c.loop-i.shared c.args.user c.loop-i.i (omega arith) c.loop-i.invariant
