-- Each turn adds a constraint. Assumes nothing.
use mathlib.Core.Path.{◌≡◌, ap, ◌∙◌, subst}
use Prim.Native.Nat.{ℕ}
use native.Mathlib.Omega.{arith}
use Rattle.literals.specs.declared.Lit.{Lit}
use Rattle.frames.proofs.Facts.{constraint-inside, constraint-below}
use Rattle.unroll.specs.Map.{literal_edge}
use Rattle.unroll.proofs.Hits.{LeftUpto, left-start, left-operands, left-more, left-done}
use Rattle.unroll.proofs.constrain.Goals as goal

pub loop-done-init : goal.loop-done-init
loop-done-init c =
    let a = c.args in
    left-start a.m.now a.layout.constraints a.layout.c a.from a.work.now a.g a.map.now c.requires.extensible c.requires.from_lt_nodes

pub overflow_add-constraints : goal.overflow_add-constraints
overflow_add-constraints c = omega (arith, constraint-inside c.requires.prepared.1 c.loop-done.done (omega arith))

pub bounds-m-constraints : goal.bounds-m-constraints
bounds-m-constraints c = omega (arith, constraint-inside c.requires.prepared.1 c.loop-done.done (omega arith))

pub edge_of-e-requires : goal.edge_of-e-requires
edge_of-e-requires c =
    omega (arith, ap (λ (l : Lit). l.0.0) c.from_word.ensures, constraint-below c.requires.prepared.1 c.loop-done.done (omega arith))

pub make-made-requires : goal.make-made-requires
make-made-requires c =
    let a = c.args in
    left-operands a.m.now a.layout.constraints a.layout.c a.from a.work.now a.g a.map.now c.requires.extensible c.loop-done.done (omega arith) c.loop-done.work
    c.loop-done.graph c.loop-done.left c.edge_of-e.result c.loop-done.invariant (c.edge_of-e.ensures.0 ∙ ap (literal_edge a.map.now) c.from_word.ensures)

pub loop-done-preserved : goal.loop-done-preserved
loop-done-preserved c =
    let a = c.args in
    left-more a.m.now a.layout.constraints a.layout.c a.from a.work.now a.g a.map.now c.requires.extensible c.loop-done.done (omega arith) c.loop-done.work
    c.loop-done.graph c.loop-done.left c.edge_of-e.result c.loop-done.invariant (c.edge_of-e.ensures.0 ∙ ap (literal_edge a.map.now) c.from_word.ensures) c.make-made.new.work c.make-made.result c.make-made.ensures

pub returns : goal.returns
returns c =
    let a = c.args in
    let e : c.loop-done.done ≡ a.layout.c = omega arith in
    left-done c.requires.prepared.1 a.from a.g.free a.work.now a.g a.map.now c.loop-done.work (record { graph = c.loop-done.graph; edge = c.loop-done.left })
    (subst (λ (n : ℕ). LeftUpto a.m.now a.layout.constraints n a.g.free a.from a.work.now a.g a.map.now c.loop-done.work c.loop-done.graph c.loop-done.left) e c.loop-done.invariant)
