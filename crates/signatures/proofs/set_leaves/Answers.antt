-- Each turn gives a free bit its values. Assumes nothing.
use mathlib.Core.Path.{◌≡◌, subst}
use Prim.Native.Nat.{ℕ, ◌+◌}
use native.Mathlib.Omega.{arith}
use Rattle.signatures.proofs.Simulations.{LeavesUpto, leaves_none, leaves-more, constant-bits, free-bits}
use Rattle.signatures.proofs.set_leaves.Goals as goal

pub loop-j-init : goal.loop-j-init
loop-j-init c =
    let a = c.args in
    let m = a.work.now in
    leaves-more m m c.put_word.new.work a.free a.q 0 0 (leaves_none m a.free a.q) c.put_word.ensures (constant-bits a.free a.q)

pub loop-j-preserved : goal.loop-j-preserved
loop-j-preserved c =
    leaves-more c.args.work.now c.loop-j.work c.put_word-in-loop-j.new.work c.args.free c.args.q (c.loop-j.j + 1) c.counting_word-w.result c.loop-j.invariant c.put_word-in-loop-j.ensures
    (free-bits c.args.free c.args.q c.loop-j.j c.counting_word-w.result (omega arith) c.counting_word-w.ensures)

pub returns : goal.returns
returns c =
    let a = c.args in
    let e : c.loop-j.j + 1 ≡ a.free + 1 = omega arith in
    let u = subst (λ (i : ℕ). LeavesUpto a.work.now c.loop-j.work a.free a.q i) e c.loop-j.invariant in
    record { right = u.right; kept = u.kept }
