-- `settling::settle_all` meets its contract. Assumes nothing.
use Rattle.settling.proofs.Turns.{settled-none, settled-more}
use Rattle.settling.specs.Settling.{settled_from}
use Prim.Native.Nat.{◌+◌, ◌-◌}
use lib.ListN as N
use native.Mathlib.Omega.{arith}
use mathlib.Core.Path.{◌≡◌, refl, sym, ap, ◌∙◌}
use Rattle.settling.proofs.settle_all.Goals as goal

pub loop-t-preserved : goal.loop-t-preserved
loop-t-preserved c =
    let s = c.args in
    let more = settled-more c.loop-t.work s.net s.arena c.loop-t.t (s.n - c.loop-t.t) (omega arith) in
    let e : s.n - c.loop-t.t - 1 ≡ s.n - (c.loop-t.t + 1) = omega arith in
    rw (c.settle_one.ensures, ← e) (sym more ∙ c.loop-t.invariant)

pub returns : goal.returns
returns c =
    let s = c.args in
    sym (settled-none c.loop-t.work s.net s.arena c.loop-t.t (s.n - c.loop-t.t) (omega arith)) ∙ c.loop-t.invariant
