-- Each turn gives the next gate in the order its edge. Assumes nothing.
use mathlib.Core.Path.{◌≡◌, sym, subst}
use Prim.Native.Nat.{ℕ, ◌+◌, ◌*◌, ◌<◌}
use native.Mathlib.Omega.{arith}
use lib.ListN.{length, get_or}
use Rattle.aiger.specs.Circuit.{Gate}
use Rattle.layout.specs.Words.{circuit_in}
use Rattle.frames.specs.Lanes.{GateRoom}
use Rattle.frames.proofs.Facts.{right, gate-place, gates-are, gates-few, gates-inside, gate-room}
use Rattle.frames.proofs.Evaluation.{gate_on}
use Rattle.unroll.specs.Map.{GateMapped}
use Rattle.unroll.proofs.Gates.{MadeUpto, made-start, made-extensible, made_more, made-end}
use Rattle.unroll.proofs.put_gates.Goals as goal
use Rattle.unroll.proofs.put_gates.Goals.{In-loop-k}

-- in a turn: the gate that the order names
abbrev g : In-loop-k → ℕ
g c = get_or c.args.order.now c.loop-k.k 0

named : (c : In-loop-k) → g c < c.args.layout.a
named c = omega (arith, gates-are c.requires.ready, c.requires.ready.ordered.gate c.loop-k.k (omega (arith, gates-are c.requires.ready)))

pub loop-k-init : goal.loop-k-init
loop-k-init c = made-start (circuit_in c.args.m.now) c.args.order.now c.args.work.now c.args.g c.args.map.now c.requires.extensible.stored c.requires.extensible.edges

pub bounds-order-k : goal.bounds-order-k
bounds-order-k c = omega (arith, gates-few c.requires.ready, c.requires.ready.ranks)

pub overflow_mul-i : goal.overflow_mul-i
overflow_mul-i c = omega (arith, named (goal.at.overflow_mul-i c).In-loop-k, gates-few c.requires.ready)

pub overflow_add-gates : goal.overflow_add-gates
overflow_add-gates c = omega (arith, named (goal.at.overflow_add-gates c).In-loop-k, gates-inside c.requires.ready)

pub put_gate-graph-requires : goal.put_gate-graph-requires
put_gate-graph-requires c =
    let a = c.args in
    let r = c.requires.ready in
    let s = (goal.at.put_gate-graph-requires c).In-loop-k in
    record {
      gate_room = subst (λ (n : ℕ). GateRoom a.m.now (a.layout.gates + 3 * g s) n) (sym c.loop-k.auto.map) (gate-room r (g s) (named s));
      extensible = made-extensible c.requires.extensible (omega arith) c.loop-k.invariant;
    }

pub loop-k-preserved : goal.loop-k-preserved
loop-k-preserved c =
    let a = c.args in
    let r = c.requires.ready in
    let s = (goal.at.loop-k-preserved c).In-loop-k in
    made_more (right r.held) r.ordered c.loop-k.k (omega (arith, gates-are r)) c.loop-k.invariant
    (subst (λ (n : ℕ). GateMapped (gate_on (circuit_in a.m.now) a.order.now c.loop-k.k) n c.loop-k.work c.loop-k.graph c.loop-k.map c.put_gate-graph.new.work c.put_gate-graph.result c.put_gate-graph.new.map) c.loop-k.invariant.grown.free
    (subst (λ (x : Gate). GateMapped x c.loop-k.graph.free c.loop-k.work c.loop-k.graph c.loop-k.map c.put_gate-graph.new.work c.put_gate-graph.result c.put_gate-graph.new.map) (sym (gate-place r (g s) (named s))) c.put_gate-graph.ensures))

pub returns : goal.returns
returns c =
    let r = c.requires.ready in
    let e : c.loop-k.k ≡ length (circuit_in c.args.m.now).gates = omega (arith, gates-are r) in
    made-end (right r.held) r.ordered
    (subst
    (λ (k : ℕ). MadeUpto (circuit_in c.args.m.now) c.args.order.now k c.args.g.free c.args.work.now c.args.g c.args.map.now c.loop-k.work c.loop-k.graph c.loop-k.map)
    e c.loop-k.invariant)
