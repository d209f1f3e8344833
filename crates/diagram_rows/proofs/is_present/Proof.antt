-- `diagram_rows::is_present` meets its contract. Assumes nothing.
use mathlib.Core.Path.{ap, ◌∙◌}
use mathlib.Core.Bool.{not}
use Prim.Native.Nat.{ℕ, ◌-◌}
use borrow.Author.Rules.{rules}
use lib.ListN.{get_or}
use lib.Dec.{eqb}
use Rattle.literals.specs.declared.Var.{Var}
use Rattle.diagram_rows.specs.Rows.{absent}
use Rattle.diagram_rows.proofs.is_present.Statement.{statement}
use Rattle.diagram_rows.proofs.is_present.Tie as tie

returns : tie.Need-returns
returns c =
    let a = c.args in
    ap (λ (x : ℕ). not (eqb x absent)) (c.entry.ensures ∙ ap (λ (v : Var). get_or a.edges.now v.0 absent) c.var.ensures)

pub is_present_spec : {M : Type 1} → statement M
is_present_spec =
    tie.close
    (tie.spec (λ c κs. search rules) (λ c κs. search rules) returns)
