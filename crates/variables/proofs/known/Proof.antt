-- `known` meets its contract: variable 0 is the constant, and any other is known where the table has it.
-- Assumes nothing.
use mathlib.Core.Path.{sym, ap, ◌∙◌}
use native.Mathlib.Omega.{arith}
use Rattle.literals.specs.declared.Var.{Var}
use Rattle.variables.proofs.Entries.{known_constant, known-not, known-there}
use borrow.Author.Rules.{rules}
use Rattle.variables.proofs.known.Statement.{statement}
use Rattle.variables.proofs.known.Tie as tie

returns : tie.Need-returns-then-is_constant
returns c = known_constant c.args.table.now c.args.l
    (sym c.is_constant.ensures ∙ c.if-is_constant.true)

shared-slice-read-if2 : tie.Need-bounds-table-at
shared-slice-read-if2 c = omega (
  arith,
  ap (λ (v : Var). v.0)
      c.var-at.ensures,
  c.requires,
)

returns-2 : tie.Need-returns-then-table-at-eq0
returns-2 c =
    known-not c.args.table.now
    c.args.l c.var-at.result.0
    (ap (λ (v : Var). v.0) c.var-at.ensures)
    (sym c.is_constant.ensures ∙ c.if-is_constant.false) c.if-table-at-eq0.true

returns-3 : tie.Need-returns
returns-3 c =
    known-there c.args.table.now
    c.args.l c.var-at.result.0
    (ap (λ (v : Var). v.0) c.var-at.ensures)
    c.if-table-at-eq0.false

pub known_spec : {M : Type 1} → statement M
known_spec =
    tie.close
    (tie.spec (λ c κs. search rules) returns (λ c κs. search rules) (λ c. search rules) (λ c. search rules) shared-slice-read-if2 returns-2 returns-3)
