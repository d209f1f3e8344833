-- Each read more is a step of the line that was gathered before. Assumes nothing.
use Rattle.std.proofs.Common.{refl, ap, arith}
use Rattle.panel_input.proofs.Keeping.{empty-gathers, empty-reads, empty-open, step-gathers, step-reads, received}
use Rattle.panel_input.proofs.receive.Goals as goal

pub advance-got-requires : goal.advance-got-requires
advance-got-requires c = empty-reads c.empty.ensures

pub loop-rt-init : goal.loop-rt-init
loop-rt-init c =
    let a = c.advance-got in
    step-gathers a.result.last (empty-gathers c.empty.ensures) (empty-open c.empty.ensures) refl a.ensures

pub loop-rt-smaller : goal.loop-rt-smaller
loop-rt-smaller c =
    let a = c.advance-got-in-loop-rt in
    let e = step-reads a.result.last c.loop-rt.invariant c.gathered_line.ensures a.ensures in
    omega (arith, e, (c.goes_on.ensures.more c.loop-rt-test.true).1)

pub loop-rt-preserved : goal.loop-rt-preserved
loop-rt-preserved c =
    let a = c.advance-got-in-loop-rt in
    step-gathers a.result.last c.loop-rt.invariant (c.goes_on.ensures.more c.loop-rt-test.true).0 c.gathered_line.ensures a.ensures
