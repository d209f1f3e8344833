-- `diagram_rows::edge_of` meets its contract. Assumes nothing.
use mathlib.Core.Path.{sym, ap, ◌∙◌}
use mathlib.Core.Bool.{Bool, cond}
use Prim.Native.Nat.{ℕ, ◌-◌}
use borrow.Author.Rules.{rules}
use lib.ListN.{get_or}
use Rattle.literals.specs.declared.Var.{Var}
use Rattle.diagrams.specs.Words.{flip}
use Rattle.diagram_rows.specs.Rows.{absent}
use Rattle.diagram_rows.proofs.edge_of.Statement.{statement}
use Rattle.diagram_rows.proofs.edge_of.Tie as tie

returns : tie.Need-returns-then-is_complement
returns c =
    let a = c.args in
    let e = c.entry-e.ensures ∙ ap (λ (v : Var). get_or a.edges.now v.0 absent) c.var.ensures in
    c.flip.ensures ∙ ap (λ (x : ℕ). flip x 1) e
    ∙ ap (λ (b : Bool). cond b (flip (get_or a.edges.now a.l.0.0 absent) 1) (get_or a.edges.now a.l.0.0 absent))
    (sym c.if-is_complement.true ∙ c.is_complement.ensures)

returns-2 : tie.Need-returns
returns-2 c =
    let a = c.args in
    c.entry-e.ensures ∙ ap (λ (v : Var). get_or a.edges.now v.0 absent) c.var.ensures
    ∙ ap (λ (b : Bool). cond b (flip (get_or a.edges.now a.l.0.0 absent) 1) (get_or a.edges.now a.l.0.0 absent))
    (sym c.if-is_complement.false ∙ c.is_complement.ensures)

pub edge_of_spec : {M : Type 1} → statement M
edge_of_spec =
    tie.close
    (tie.spec (λ c κs. search rules) (λ c κs. search rules) (λ c κs. search rules) (λ c κs. search rules) returns returns-2)
