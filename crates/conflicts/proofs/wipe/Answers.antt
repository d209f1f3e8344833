-- `conflicts::wipe` meets its contract. Assumes nothing.
use Rattle.conflicts.proofs.Turns.{wiped-none, wiped-more}
use Rattle.conflicts.specs.Conflicts.{wiped}
use Prim.Native.Nat.{◌+◌, ◌-◌}
use lib.ListN as N
use native.Mathlib.Omega.{arith}
use mathlib.Core.Path.{◌≡◌, refl, sym, ◌∙◌}
use Rattle.conflicts.proofs.wipe.Goals as goal

pub loop-at-preserved : goal.loop-at-preserved
loop-at-preserved c =
    let s = c.args in
    let more = wiped-more c.loop-at.work c.loop-at.at (s.n - c.loop-at.at) (omega arith) in
    let e : s.n - c.loop-at.at - 1 ≡ s.n - (c.loop-at.at + 1) = omega arith in
    rw (c.put.ensures, ← e) (sym more ∙ c.loop-at.invariant)

pub returns : goal.returns
returns c =
    let s = c.args in
    sym (wiped-none c.loop-at.work c.loop-at.at (s.n - c.loop-at.at) (omega arith)) ∙ c.loop-at.invariant
