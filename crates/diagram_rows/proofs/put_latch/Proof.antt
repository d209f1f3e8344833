-- `diagram_rows::put_latch` meets its contract. Assumes nothing.
use mathlib.Core.Path.{ap, ◌∙◌}
use Prim.Native.Nat.{◌-◌}
use borrow.Author.Rules.{rules}
use Rattle.literals.specs.declared.Var.{Var}
use Rattle.diagrams.specs.States.{Outcome, edge_of, left}
use Rattle.diagram_rows.specs.Rows.{filled, noted, noted_in}
use Rattle.diagram_rows.proofs.put_latch.Statement.{statement}
use Rattle.diagram_rows.proofs.put_latch.Tie as tie

same_length : tie.Need-shape_of-w
same_length c = c.node-e.auto.w

same-length-2 : tie.Need-shape_of-edges
same-length-2 c = c.note.auto.edges

returns : tie.Need-returns
returns c =
    let a = c.args in
    let e = c.note.ensures in
    ap (filled (left c.node-e.new.w c.node-e.result).state)
    (e ∙ ap (λ (v : Var). noted (edge_of c.node-e.result) v.0 a.edges.now) c.var.ensures)
    ∙ ap (λ (o : Outcome). noted_in o a.l.0.0 a.edges.now) c.node-e.ensures

pub put_latch_spec : {M : Type 1} → statement M
put_latch_spec =
    tie.close
    (tie.spec (λ c κs. search rules) (λ c κs. search rules) (λ c κs. search rules) same_length same-length-2 returns)
