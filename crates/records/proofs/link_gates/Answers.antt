-- `records::link_gates` meets its contract. Assumes nothing.
use mathlib.Core.Path.{◌≡◌, refl, sym, ap, ◌∙◌}
use mathlib.Core.List.{List}
use Prim.Native.Nat.{ℕ, ◌+◌, ◌-◌}
use native.Mathlib.Omega.{arith}
use lib.ListN as N
use Rattle.records.specs.Steps as S
use Rattle.records.proofs.Turns.{down-none, down-at}
use Rattle.records.proofs.link_gates.Goals as goal

pub loop-g-preserved : goal.loop-g-preserved
loop-g-preserved c =
    let s = c.args in
    let j = c.loop-g.g - 1 - s.first in
    let p : c.loop-g.g - 1 ≡ s.first + j = omega arith in
    let q = c.link-in-loop-g.ensures ∙ ap (λ (u : List ℕ). S.linked u s.nodes (c.loop-g.g - 1) 0) c.link.ensures ∙ ap (λ (i : ℕ). S.linked (S.linked c.loop-g.work s.nodes i 1) s.nodes i 0) p in
    sym (down-at (λ u i. S.linked (S.linked u s.nodes (s.first + i) 1) s.nodes (s.first + i) 0) (c.loop-g.g - s.first) j c.loop-g.work c.link-in-loop-g.new.work (omega arith) q) ∙ c.loop-g.invariant

pub returns : goal.returns
returns c =
    let s = c.args in
    sym (down-none (λ u i. S.linked (S.linked u s.nodes (s.first + i) 1) s.nodes (s.first + i) 0) (c.loop-g.g - s.first) c.loop-g.work (omega arith)) ∙ c.loop-g.invariant
