-- `records::clear` meets its contract. Assumes nothing.
use mathlib.Core.Path.{◌≡◌, refl, sym, ap, ◌∙◌}
use Prim.Native.Nat.{◌+◌, ◌-◌, ◌≤◌}
use native.Mathlib.Omega.{arith}
use lib.ListN as N
use Rattle.records.specs.Steps as S
use Rattle.records.proofs.Turns.{down-none, down-at}
use Rattle.records.proofs.clear.Goals as goal

pub loop-j-preserved : goal.loop-j-preserved
loop-j-preserved c =
    let s = c.args in
    sym (down-at (λ u j. N.set u (s.i + j) 0) c.loop-j.j (c.loop-j.j - 1) c.loop-j.work c.put.new.work (omega arith) c.put.ensures) ∙ c.loop-j.invariant

pub returns : goal.returns
returns c =
    let s = c.args in
    sym (down-none (λ u j. N.set u (s.i + j) 0) c.loop-j.j c.loop-j.work (omega arith)) ∙ c.loop-j.invariant
