-- `kept::detach` meets its contract. Assumes nothing.
use Rattle.kept.proofs.Turns.{detached-none, detached-more}
use Rattle.kept.specs.Kept.{detached}
use lib.ListN as N
use native.Mathlib.Omega.{arith}
use mathlib.Core.Path.{◌≡◌, refl, sym, ◌∙◌}
use Rattle.kept.proofs.detach.Goals as goal

pub loop-v-preserved : goal.loop-v-preserved
loop-v-preserved c =
    let l = c.loop-v in
    let s = c.args in
    let more = detached-more l.work s.net l.v (omega arith) in
    let u = c.set_field in
    let v = c.set_field-in-loop-v in
    rw (v.ensures, u.ensures) (sym more ∙ l.invariant)

pub returns : goal.returns
returns c =
    let l = c.loop-v in
    let s = c.args in
    sym (detached-none l.work s.net l.v (omega arith)) ∙ l.invariant
