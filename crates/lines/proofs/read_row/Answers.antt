-- `lines::read_row` meets its contract: each turn of its loop reads one number. Assumes nothing.
use Rattle.std.proofs.Common.{subst, Some}
use Rattle.numbers.specs.Number.{NumberAt}
use Rattle.numbers.specs.declared.Number.{Number}
use Rattle.lines.proofs.Reading.{start, more, last, last-left, bad, bad-left, long, long-left}
use Rattle.lines.proofs.read_row.Goals as goal

pub loop-count-init : goal.loop-count-init
loop-count-init c = start _ _ _ _ c.requires

pub loop-count-preserved : goal.loop-count-preserved
loop-count-preserved c =
    let a = c.args in
    let n = c.loop-count in
    more _ _ _ _ _ _ _ n.invariant _ _ c.loop-count-test.true
    (subst (λ (w : Number). NumberAt a.s.now n.next (Some w)) c.in-Spaced.is c.in_ok-v.ensures)

pub returns-in-Ended : goal.returns-in-Ended
returns-in-Ended c =
    let a = c.args in
    let n = c.loop-count in
    let t = c.loop-count-test.true in
    let found = subst (λ (w : Number). NumberAt a.s.now n.next (Some w)) c.in-Ended.is c.in_ok-v.ensures in
    (last _ _ _ _ _ _ _ n.invariant _ _ t found, last-left _ _ _ _ _ _ _ n.invariant _ _ t found)

pub returns-in_err-v : goal.returns-in_err-v
returns-in_err-v c =
    let n = c.loop-count in
    let t = c.loop-count-test.true in
    (rw c.from_residual.ensures (bad _ _ _ _ _ _ _ n.invariant t c.in_err-v.ensures), bad-left _ _ _ _ _ _ _ n.invariant t c.in_err-v.ensures)

pub returns : goal.returns
returns c =
    let n = c.loop-count in
    (long _ _ _ _ _ _ _ n.invariant c.loop-count-test.false, long-left _ _ _ _ _ _ _ n.invariant c.loop-count-test.false)
