-- Each turn reads the edge of a latch's next literal. Assumes nothing.
use mathlib.Core.Path.{◌≡◌, ap, ◌∙◌}
use Prim.Native.Nat.{ℕ, ◌<◌}
use native.Mathlib.Omega.{arith}
use Rattle.literals.specs.declared.Lit.{Lit}
use Rattle.nodes.specs.Edges.{edge_word}
use Rattle.nodes.specs.declared.Edge.{Edge}
use Rattle.frames.proofs.Facts.{latches-inside, latches-few, next-below}
use Rattle.frames.proofs.Stores.{next_more}
use Rattle.unroll.specs.Map.{literal_edge, next_word}
use Rattle.unroll.proofs.next_state.Goals as goal

pub loop-j-init : goal.loop-j-init
loop-j-init c = λ i l. absurd (omega arith)

pub overflow_mul-j : goal.overflow_mul-j
overflow_mul-j c = omega (arith, latches-inside c.requires.prepared.1)

pub overflow_add-latches : goal.overflow_add-latches
overflow_add-latches c = omega (arith, latches-inside c.requires.prepared.1)

pub overflow_add-latches-in-loop-j : goal.overflow_add-latches-in-loop-j
overflow_add-latches-in-loop-j c = omega (arith, latches-inside c.requires.prepared.1)

pub bounds-m-latches : goal.bounds-m-latches
bounds-m-latches c = omega (arith, latches-inside c.requires.prepared.1)

pub edge_of-e-requires : goal.edge_of-e-requires
edge_of-e-requires c = omega (arith, ap (λ (l : Lit). l.0.0) c.from_word.ensures, next-below c.requires.prepared.1 c.loop-j.j (omega arith))

pub overflow_cast-state : goal.overflow_cast-state
overflow_cast-state c = omega (arith, c.word.ensures, c.edge_of-e.ensures.1)

pub bounds-state-j : goal.bounds-state-j
bounds-state-j c = omega (arith, latches-few c.requires.prepared.1)

pub loop-j-preserved : goal.loop-j-preserved
loop-j-preserved c =
    let map = c.args.map.now in
    next_more (λ i x. x ≡ next_word c.args.m.now c.args.layout.latches map i) c.loop-j.state c.loop-j.j c.word.result
    (omega (arith, latches-few c.requires.prepared.1)) c.loop-j.invariant
    (c.word.ensures ∙ ap (λ (e : Edge). edge_word e) (c.edge_of-e.ensures.0 ∙ ap (literal_edge map) c.from_word.ensures))

pub returns : goal.returns
returns c = λ j l. c.loop-j.invariant j (omega arith)
