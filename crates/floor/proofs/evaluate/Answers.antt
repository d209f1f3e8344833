-- `floor::evaluate` meets its contract. Assumes nothing.
use Rattle.floor.proofs.Turns.{evaluated-none, evaluated-more}
use Rattle.floor.specs.Place.{evaluated}
use Prim.Native.Nat.{◌+◌, ◌-◌, ◌≤◌}
use lib.ListN as N
use native.Mathlib.Omega.{arith}
use mathlib.Core.Path.{◌≡◌, refl, sym, ap, ◌∙◌}
use Rattle.floor.proofs.evaluate.Goals as goal

pub loop-v-preserved : goal.loop-v-preserved
loop-v-preserved c =
    let l = c.loop-v in
    let s = c.args in
    let more = evaluated-more l.work s.net l.v (s.n - l.v) (omega arith) in
    let e : s.n - l.v - 1 ≡ s.n - (l.v + 1) = omega arith in
    let u = c.set_field in
    rw (u.ensures, c.value-x.ensures, ← e) (sym more ∙ l.invariant)

pub returns : goal.returns
returns c =
    let l = c.loop-v in
    let s = c.args in
    sym (evaluated-none l.work s.net l.v (s.n - l.v) (omega arith)) ∙ l.invariant
