-- `records::set_gates` meets its contract. Assumes nothing.
use mathlib.Core.Path.{◌≡◌, refl, sym, ap, ◌∙◌}
use Prim.Native.Nat.{◌+◌, ◌-◌, ◌≤◌}
use native.Mathlib.Omega.{arith}
use lib.ListN as N
use Rattle.records.specs.Steps as S
use Rattle.records.proofs.Turns.{down-none, down-at}
use Rattle.records.proofs.set_gates.Goals as goal

pub loop-k-preserved : goal.loop-k-preserved
loop-k-preserved c =
    let s = c.args in
    let j = c.loop-k.k - 1 - s.first in
    let p : c.loop-k.k - 1 ≡ s.first + j = omega arith in
    sym (down-at (λ u i. S.gate_set u (s.first + i)) (c.loop-k.k - s.first) j c.loop-k.work c.set_gate.new.work (omega arith) (c.set_gate.ensures ∙ ap (S.gate_set c.loop-k.work) p)) ∙ c.loop-k.invariant

pub returns : goal.returns
returns c =
    let s = c.args in
    sym (down-none (λ u i. S.gate_set u (s.first + i)) (c.loop-k.k - s.first) c.loop-k.work (omega arith)) ∙ c.loop-k.invariant
