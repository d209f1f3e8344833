-- `diagram_rows::put_gate_at` meets its contract. Assumes nothing.
use mathlib.Core.Path.{ap, ◌∙◌}
use Prim.Native.Nat.{◌-◌}
use native.Mathlib.Omega.{arith}
use borrow.Author.Rules.{rules}
use Rattle.literals.specs.declared.Lit.{Lit}
use Rattle.literals.specs.Literal.{literal}
use Rattle.diagrams.specs.States.{state_of}
use Rattle.diagram_rows.specs.Rows.{gate_put}
use Rattle.diagram_rows.proofs.Read.{gates-fit, gate-read, left-read, right-read}
use Rattle.diagram_rows.proofs.put_gate_at.Statement.{statement}
use Rattle.diagram_rows.proofs.put_gate_at.Tie as tie

triple-at-requires : tie.Need-triple_at-l-requires
triple-at-requires c κs = (gates-fit c.requires, omega arith)

triple-at-requires-2 : tie.Need-triple_at-x-requires
triple-at-requires-2 c κs = (gates-fit c.requires, omega arith)

triple-at-requires-3 : tie.Need-triple_at-y-requires
triple-at-requires-3 c κs = (gates-fit c.requires, omega arith)

same_length : tie.Need-shape_of-w
same_length c = c.put_gate.auto.w

same-length-2 : tie.Need-shape_of-edges
same-length-2 c = c.put_gate.auto.edges

returns : tie.Need-returns
returns c =
    let a = c.args in
    let v = c.var.ensures ∙ ap (λ (l : Lit). l.0) (c.triple_at-l.ensures ∙ ap literal (gate-read c.requires a.g)) in
    let x = c.triple_at-x.ensures ∙ ap literal (left-read c.requires a.g) in
    let y = c.triple_at-y.ensures ∙ ap literal (right-read c.requires a.g) in
    c.put_gate.ensures ∙ (λ i. gate_put (v i).0 (x i) (y i) (state_of a.w.now) a.edges.now)

pub put_gate_at_spec : {M : Type 1} → statement M
put_gate_at_spec =
    tie.close
    (tie.spec triple-at-requires triple-at-requires-2 triple-at-requires-3 (λ c κs. search rules) (λ c κs. search rules) same_length same-length-2 returns)
