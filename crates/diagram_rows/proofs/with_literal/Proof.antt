-- `diagram_rows::with_literal` meets its contract. Assumes nothing.
use mathlib.Core.Path.{sym, ◌∙◌}
use Prim.Native.Nat.{◌-◌}
use borrow.Author.Rules.{rules}
use borrow.Author.Tests.{not-true, not-false}
use Rattle.diagrams.specs.States.{state_of}
use Rattle.diagram_rows.proofs.Follow.{literal-absent, literal-made}
use Rattle.diagram_rows.proofs.with_literal.Statement.{statement}
use Rattle.diagram_rows.proofs.with_literal.Tie as tie

returns : tie.Need-returns-then-not-is_present
returns c =
    let a = c.args in
    literal-absent a.edges.now a.l (state_of a.w.now) a.e
    (sym c.if-not-is_present.true ∙ c.is_present.ensures)

same_length : tie.Need-shape_of-w
same_length c = c.both.auto.w

returns-2 : tie.Need-returns
returns-2 c =
    let a = c.args in
    c.both.ensures
    ∙ literal-made a.edges.now a.l (state_of a.w.now) a.e c.edge_of-f.result c.edge_of-f.ensures
    (sym c.if-not-is_present.false ∙ c.is_present.ensures)

pub with_literal_spec : {M : Type 1} → statement M
with_literal_spec =
    tie.close
    (tie.spec (λ c κs. search rules) returns (λ c κs. search rules) (λ c κs. search rules) same_length returns-2)
