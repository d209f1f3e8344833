-- `diagram_rows::entry` meets its contract. Assumes nothing.
use mathlib.Core.Path.{sym}
use mathlib.Core.List.{List}
use Prim.Native.Nat.{◌-◌}
use native.Mathlib.Omega.{arith}
use borrow.Author.Rules.{rules}
use lib.ListN.{get_or-eq_default}
use Rattle.meaning.proofs.Lists.{get_d_any}
use Rattle.diagram_rows.specs.Rows.{absent}
use Rattle.diagram_rows.proofs.entry.Statement.{statement}
use Rattle.diagram_rows.proofs.entry.Tie as tie

returns : tie.Need-returns-then-at-edges
returns c = let a = c.args in get_d_any a.edges.now a.v.0 0 absent (omega (arith, c.if-at-edges.true))

returns-2 : tie.Need-returns-else-at-edges
returns-2 c = let a = c.args in sym (get_or-eq_default a.edges.now absent (omega (arith, c.if-at-edges.false)))

pub entry_spec : {M : Type 1} → statement M
entry_spec =
    tie.close
    (tie.spec (λ c. search rules) (λ c. search rules) (λ c. search rules) returns returns-2)
