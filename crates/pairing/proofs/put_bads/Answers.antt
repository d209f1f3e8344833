-- `pairing::put_bads` meets its contract. Assumes nothing.
use Prim.Native.Nat.{◌+◌, ◌*◌}
use native.Mathlib.Omega.{arith}
use Rattle.frames.proofs.Stores.{stored-start}
use Rattle.renumber.proofs.Runs.{put-more, stored-all}
use Rattle.pairing.proofs.put_bads.Goals as goal

pub loop-j-init : goal.loop-j-init
loop-j-init c = stored-start _ _ _

pub loop-j-preserved : goal.loop-j-preserved
loop-j-preserved c =
    put-more c.args.to (λ k. 2 * (c.args.v.0 + 3 * k + 2) + 1) c.args.n c.loop-j.j c.args.m.now c.loop-j.m c.loop-j.auto.m (omega arith) (omega arith)
    c.loop-j.invariant _ c.word.ensures

pub returns : goal.returns
returns c =
    stored-all (λ i. c.args.to + i) (λ k. 2 * (c.args.v.0 + 3 * k + 2) + 1) c.args.m.now c.loop-j.m (omega arith) c.loop-j.invariant
