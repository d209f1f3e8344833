-- `conflicts::alternate` meets its contract. Assumes nothing.
use borrow.Author.Tests.{le-leb}
use Rattle.conflicts.specs.Conflicts as Cf
use mathlib.Core.Path.{refl}
use Rattle.conflicts.proofs.Calls.{alternated-free, alternated-sweep}
use Rattle.conflicts.proofs.alternate.Goals as goal

pub returns-then-o : goal.returns-then-o
unfolding Cf.alternated
returns-then-o c = rw (le-leb _ _ c.if-o.true) (record { words = refl; search = refl })

pub returns-then-o-2 : goal.returns-then-o-2
returns-then-o-2 c =
    let s = c.args in
    rw (alternated-free s.work.now s.net s.s c.if-o.false
    c.if-o-2.true c.doubled-d.ensures
    c.with_order.ensures) c.change.ensures

pub returns : goal.returns
returns c =
    let s = c.args in
    rw (alternated-sweep s.work.now s.net s.s c.if-o.false
    c.if-o-2.false
    c.sum-twice.ensures c.sum-twice.ensures
    c.sum-more.ensures) c.change-2.ensures
