-- Each turn writes a free bit. Assumes nothing.
use mathlib.Core.Path.{◌≡◌, sym, ap, ◌∙◌}
use Prim.Native.Nat.{ℕ, ◌<◌}
use native.Mathlib.Omega.{arith}
use borrow.Author.Count.{below_more}
use lib.ListN.{get_or, set}
use lib.Seq.{get_or-set_same, get_or-set_other}
use Rattle.aiger.specs.Bits.{nonzero}
use Rattle.aiger.specs.Frames.{free_bit}
use Rattle.traces.proofs.put_trace.Goals as goal

pub loop-j-init : goal.loop-j-init
loop-j-init c = λ t x d e k l. absurd (omega arith)

pub loop-j-preserved : goal.loop-j-preserved
loop-j-preserved c =
    let a = c.args in
    let v = c.free_bit.result in
    λ t x d e. below_more (λ k. nonzero (get_or (set c.loop-j.work c.loop-j.j v) k 0) ≡ free_bit a.n x k) c.loop-j.j
    (λ k l. ap nonzero (get_or-set_other c.loop-j.work c.loop-j.j k v 0 (λ q. omega arith)) ∙ c.loop-j.invariant t x d e k l)
    (ap nonzero (get_or-set_same c.loop-j.work c.loop-j.j v 0 (omega arith)) ∙ c.free_bit.ensures t x d (omega arith) ∙ ap (λ (m : ℕ). free_bit m x c.loop-j.j) (sym e))

pub returns : goal.returns
returns c = λ t x d e j l. c.loop-j.invariant t x d e j (omega arith)
