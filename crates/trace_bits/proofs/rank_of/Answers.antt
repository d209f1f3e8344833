-- `trace_bits::rank_of`: no word before this one is x. Assumes nothing.
use Rattle.std.proofs.Common.{arith, length}
use Rattle.trace_bits.proofs.Ranks.{not_more, rank-here, rank-none}
use Rattle.trace_bits.proofs.rank_of.Goals as goal

pub loop-k-init : goal.loop-k-init
loop-k-init c = λ u l. absurd (omega arith)

pub returns-then-y-x : goal.returns-then-y-x
returns-then-y-x c = rank-here c.args.list.now c.args.x c.loop-k.k (omega arith) c.loop-k.invariant c.if-y-x.true

pub loop-k-preserved : goal.loop-k-preserved
loop-k-preserved c = not_more c.args.list.now c.args.x c.loop-k.k c.loop-k.invariant c.if-y-x.false

pub returns : goal.returns
returns c = rank-none c.args.list.now c.args.x (length c.args.list.now) (omega arith) (omega arith) (λ u l. c.loop-k.invariant u (omega arith))
