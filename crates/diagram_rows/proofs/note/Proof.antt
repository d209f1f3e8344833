-- `diagram_rows::note` meets its contract. Assumes nothing.
use mathlib.Core.Path.{sym, ap, ◌∙◌}
use mathlib.Core.Option.{some}
use Prim.Native.Nat.{◌-◌}
use borrow.Author.Rules.{rules}
use Rattle.diagrams.specs.States.{edge_of, Made}
use Rattle.diagram_rows.specs.Rows.{noted}
use Rattle.diagram_rows.proofs.note.Statement.{statement}
use Rattle.diagram_rows.proofs.note.Tie as tie

same_length : tie.Need-shape_of-edges
same_length c = c.put.auto.work

returns : tie.Need-returns-in-Ok
returns c =
    let a = c.args in
    ap some c.put.ensures ∙ ap (λ (x : Made). noted (edge_of x) a.v.0 a.edges.now) (sym c.in-Ok.is)

returns-2 : tie.Need-returns-in-Err
returns-2 c =
    let a = c.args in
    ap (λ (x : Made). noted (edge_of x) a.v.0 a.edges.now) (sym c.in-Err.is)

pub note_spec : {M : Type 1} → statement M
note_spec =
    tie.close
    (tie.spec (λ c. search rules) (λ c. search rules) (λ c κs. search rules) (λ c. search rules) same_length returns returns-2)
