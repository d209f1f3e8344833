use Rattle.std.proofs.Common.{◌≡◌, ◌∙◌, true, false, arith}
use Rattle.layout.specs.Words.{circuit_in}
use Rattle.diagrams.specs.States.{state_of}
use Rattle.diagram_rows.proofs.Follow.{leaves-as, gates-done, gates-full, gates-more}
use Rattle.diagram_rows.proofs.put_gates.Goals as goal

pub returns-then-not-put_gate_at : goal.returns-then-not-put_gate_at
returns-then-not-put_gate_at c =
    let a = c.args in
    gates-full (circuit_in a.m.now) a.gates.now c.loop-g.g-index (state_of c.loop-g.w) c.loop-g.edges c.loop-g-test.true
    (state_of c.put_gate_at.new.w)
    (leaves-as c.put_gate_at.new.w c.put_gate_at.new.edges c.put_gate_at.result false c.if-not-put_gate_at.true ∙ c.put_gate_at.ensures)
    ∙ c.loop-g.invariant

pub loop-g-preserved : goal.loop-g-preserved
loop-g-preserved c =
    let a = c.args in
    gates-more (circuit_in a.m.now) a.gates.now c.loop-g.g-index (state_of c.loop-g.w) c.loop-g.edges c.loop-g-test.true
    (state_of c.put_gate_at.new.w) c.put_gate_at.new.edges
    (leaves-as c.put_gate_at.new.w c.put_gate_at.new.edges c.put_gate_at.result true c.if-not-put_gate_at.false ∙ c.put_gate_at.ensures)
    ∙ c.loop-g.invariant

pub returns : goal.returns
returns c =
    let a = c.args in
    gates-done (circuit_in a.m.now) a.gates.now c.loop-g.g-index (state_of c.loop-g.w) c.loop-g.edges (omega (arith, c.loop-g-test.false))
    ∙ c.loop-g.invariant
