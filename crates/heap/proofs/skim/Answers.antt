-- `heap::skim` meets its contract. Assumes nothing.
use Rattle.heap.proofs.Turns.{left_by, skimmed-none, skimmed-stop, skimmed-more}
use Rattle.heap.specs.Heap.{skimmed}
use Rattle.memory.specs.Record.{field}
use Prim.Native.Nat.{ℕ, ◌-◌, ◌+◌}
use lib.ListN as N
use native.Mathlib.Omega.{arith}
use mathlib.Core.Path.{◌≡◌, refl, sym, ap, ◌∙◌}
use Rattle.heap.proofs.skim.Goals as goal

pub returns-then-field-eq2 : goal.returns-then-field-eq2
returns-then-field-eq2 c =
    let l = c.loop in
    let s = c.args in
    let e = c.field.ensures ∙ ap (λ (k : ℕ). field l.work s.nodes k 5) c.at_place-x.ensures in
    left_by (sym (skimmed-stop l.work s.nodes l.h (c.args.n - c.loop.counter) (sym e ∙ c.if-field-eq2.true)) ∙ l.invariant)

pub loop-preserved : goal.loop-preserved
loop-preserved c =
    let rest : c.args.n - (c.loop.counter + 1) ≡ c.args.n - c.loop.counter - 1 = omega arith in
    let l = c.loop in
    let s = c.args in
    let e = c.field.ensures
    ∙ ap (λ (k : ℕ). field l.work s.nodes k 5) c.at_place-x.ensures in
    let more = skimmed-more l.work s.nodes l.h (c.args.n - c.loop.counter) (omega arith)
    (λ z. c.if-field-eq2.false (e ∙ z)) in
    let u = c.drop_top-h in
    rw (rest, u.ensures.words, u.ensures.heap) (sym more ∙ l.invariant)

pub returns : goal.returns
returns c =
    let l = c.loop in
    let s = c.args in
    left_by (sym (skimmed-none l.work s.nodes l.h (c.args.n - c.loop.counter) (omega arith)) ∙ l.invariant)
