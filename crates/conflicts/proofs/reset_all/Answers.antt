-- `conflicts::reset_all` meets its contract. Assumes nothing.
use Rattle.conflicts.proofs.Turns.{reset-none, reset-more}
use Rattle.conflicts.specs.Conflicts.{reset_all}
use lib.ListN as N
use native.Mathlib.Omega.{arith}
use mathlib.Core.Path.{◌≡◌, refl, sym, ◌∙◌}
use Rattle.conflicts.proofs.reset_all.Goals as goal

pub loop-v-preserved : goal.loop-v-preserved
loop-v-preserved c =
    let s = c.args in
    let more = reset-more c.loop-v.work s.nodes c.loop-v.v (omega arith) in
    rw (c.reset_rest.ensures, c.reset.ensures) (sym more ∙ c.loop-v.invariant)

pub returns : goal.returns
returns c =
    let s = c.args in
    sym (reset-none c.loop-v.work s.nodes c.loop-v.v (omega arith)) ∙ c.loop-v.invariant
