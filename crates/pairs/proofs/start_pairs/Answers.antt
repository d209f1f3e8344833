-- The loop clears the head of each bucket. Assumes nothing.
use native.Mathlib.Omega.{arith}
use Rattle.pairs.proofs.Buckets.{cleared-start, cleared_more, cleared-started}
use Rattle.pairs.proofs.start_pairs.Goals as goal

pub loop-h-init : goal.loop-h-init
loop-h-init c = cleared-start c.args.work.now

pub bounds-work-h : goal.bounds-work-h
bounds-work-h c = omega (arith, c.loop-h.invariant.size)

pub loop-h-preserved : goal.loop-h-preserved
loop-h-preserved c = cleared_more c.args.work.now c.loop-h.work c.loop-h.h (omega arith) c.loop-h.invariant

pub returns : goal.returns
returns c = cleared-started c.args.work.now c.loop-h.work c.args.g c.loop-h.h (omega arith) c.requires c.loop-h.invariant
