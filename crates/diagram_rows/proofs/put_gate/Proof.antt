-- `diagram_rows::put_gate` meets its contract. Assumes nothing.
use mathlib.Core.Path.{sym, ap, ap₂, ◌∙◌}
use Prim.Native.Nat.{◌-◌}
use borrow.Author.Rules.{rules}
use borrow.Author.Tests.{not-true, not-false}
use Rattle.diagrams.specs.States.{Outcome, state_of, left}
use Rattle.conjunction.specs.Conjunction.{both}
use Rattle.diagram_rows.specs.Rows.{filled, noted_in}
use Rattle.diagram_rows.proofs.Follow.{gate-left, gate-right, gate-made}
use Rattle.diagram_rows.proofs.put_gate.Statement.{statement}
use Rattle.diagram_rows.proofs.put_gate.Tie as tie

returns : tie.Need-returns-then-not-is_present
returns c =
    let a = c.args in
    gate-left a.v.0 a.x a.y (state_of a.w.now) a.edges.now
    (sym c.if-not-is_present.true ∙ c.is_present.ensures)

returns-2 : tie.Need-returns-then-not-is_present-2
returns-2 c =
    let a = c.args in
    gate-right a.v.0 a.x a.y (state_of a.w.now) a.edges.now
    (sym c.if-not-is_present.false ∙ c.is_present.ensures)
    (sym c.if-not-is_present-2.true ∙ c.is_present-2.ensures)

same-length-3 : tie.Need-shape_of-w
same-length-3 c = c.both-made.auto.w

same-length-4 : tie.Need-shape_of-edges
same-length-4 c = c.note.auto.edges

returns-3 : tie.Need-returns
returns-3 c =
    let a = c.args in
    ap (filled (left c.both-made.new.w c.both-made.result).state) c.note.ensures
    ∙ ap (λ (o : Outcome). noted_in o a.v.0 a.edges.now)
    (c.both-made.ensures ∙ ap₂ (both (state_of a.w.now)) c.edge_of-e.ensures c.edge_of-f.ensures)
    ∙ gate-made a.v.0 a.x a.y (state_of a.w.now) a.edges.now
    (sym c.if-not-is_present.false ∙ c.is_present.ensures)
    (sym c.if-not-is_present-2.false ∙ c.is_present-2.ensures)

pub put_gate_spec : {M : Type 1} → statement M
put_gate_spec =
    tie.close
    (tie.spec (λ c κs. search rules) (λ c. search rules) returns (λ c κs. search rules) (λ c. search rules) returns-2 (λ c κs. search rules) (λ c κs. search rules) (λ c κs. search rules) (λ c κs. search rules) same-length-3 same-length-4 returns-3)
