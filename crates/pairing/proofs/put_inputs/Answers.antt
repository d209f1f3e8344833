-- `pairing::put_inputs` meets its contract. Assumes nothing.
use Prim.Native.Nat.{◌+◌, ◌*◌}
use native.Mathlib.Omega.{arith}
use Rattle.frames.proofs.Stores.{stored-start}
use Rattle.renumber.proofs.Runs.{put-more, stored-all}
use Rattle.pairing.proofs.put_inputs.Goals as goal

pub loop-i-init : goal.loop-i-init
loop-i-init c = stored-start _ _ _

pub loop-i-preserved : goal.loop-i-preserved
loop-i-preserved c =
    put-more 7 (λ k. 2 * (k + 1)) c.args.n c.loop-i.i c.args.m.now c.loop-i.m c.loop-i.auto.m (omega arith) (omega arith) c.loop-i.invariant _
    (omega (arith, c.word.ensures))

pub returns : goal.returns
returns c = stored-all (λ i. 7 + i) (λ k. 2 * (k + 1)) c.args.m.now c.loop-i.m (omega arith) c.loop-i.invariant
