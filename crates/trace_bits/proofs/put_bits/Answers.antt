-- `trace_bits::put_bits`: the free bits below j are written. Assumes nothing.
use Rattle.std.proofs.Common.{◌≡◌, ◌∙◌, ap, get_or, set, below_more, arith}
use lib.Seq.{get_or-set_same, get_or-set_other}
use Rattle.aiger.specs.Bits.{nonzero}
use Rattle.set_attempt.specs.Bits.{free_value}
use Rattle.trace_bits.proofs.put_bits.Goals as goal

pub loop-j-preserved : goal.loop-j-preserved
loop-j-preserved c =
    let a = c.args in
    let v = c.free_word.result in
    below_more
    (λ k. nonzero (get_or (set c.loop-j.work c.loop-j.j v) k 0) ≡ free_value a.frees.now a.bits.now a.inputs.now a.trace.now a.width k) c.loop-j.j
    (λ k l. ap nonzero (get_or-set_other c.loop-j.work c.loop-j.j k v 0 (λ q. omega arith)) ∙ c.loop-j.invariant k l)
    (ap nonzero (get_or-set_same c.loop-j.work c.loop-j.j v 0 (omega arith)) ∙ c.free_word.ensures)
