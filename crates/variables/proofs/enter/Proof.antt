-- `enter` meets its contract: each test of the literal, then its entry. Assumes nothing.
use mathlib.Core.Path.{sym, ap, ◌∙◌}
use native.Mathlib.Omega.{arith}
use Rattle.literals.specs.declared.Var.{Var}
use Rattle.variables.proofs.Entries.{enters-constant, enters-complement, enters-beyond, enters-again, enters-new}
use borrow.Author.Rules.{rules}
use Rattle.variables.proofs.enter.Statement.{statement}
use Rattle.variables.proofs.enter.Tie as tie

returns : tie.Need-returns-then-is_constant
returns c =
    let A = c.args in
    enters-constant A.m.0 A.label A.l A.table.now A.table.now (sym c.is_constant.ensures ∙ c.if-is_constant.true)

returns-2 : tie.Need-returns-then-is_complement
returns-2 c =
    let A = c.args in
    enters-complement A.m.0 A.label A.l A.table.now A.table.now
    (sym c.is_complement.ensures ∙ c.if-is_complement.true)

returns-3 : tie.Need-returns-then-v-m
returns-3 c =
    let A = c.args in
    enters-beyond A.m.0 A.label A.l A.table.now A.table.now
    (omega (arith, ap (λ (v : Var). v.0) c.var-v.ensures))

slice-read-if4 : tie.Need-bounds-table-at
slice-read-if4 c = omega (
  arith,
  ap (λ (v : Var). v.0)
      c.var-v.ensures,
  c.requires,
)

returns-4 : tie.Need-returns-then-table-at-ne0
returns-4 c =
    let A = c.args in
    let at = ap (λ (v : Var). v.0) c.var-v.ensures in
    enters-again A.m.0 A.label A.l A.table.now A.table.now (λ z. c.if-table-at-ne0.true (rw at z))

slice-write-table : tie.Need-bounds-table-at-2
slice-write-table c = omega (
  arith,
  ap (λ (v : Var). v.0)
      c.var-v.ensures,
  c.requires,
)

returns-5 : tie.Need-returns
returns-5 c =
    let A = c.args in
    enters-new A.m.0 A.label A.l A.table.now c.var-v.result.0
    (ap (λ (v : Var). v.0) c.var-v.ensures)
    (sym c.is_constant.ensures
    ∙ c.if-is_constant.false)
    (sym c.is_complement.ensures
    ∙ c.if-is_complement.false)
    (omega (arith, ap (λ (v : Var). v.0) c.var-v.ensures)) c.if-table-at-ne0.false

pub enter_spec : {M : Type 1} → statement M
enter_spec =
    tie.close
    (tie.spec (λ c κs. search rules) returns (λ c κs. search rules) returns-2 (λ c κs. search rules) returns-3 (λ c. search rules) (λ c. search rules) slice-read-if4 returns-4 (λ c. search rules) slice-write-table (λ c. search rules) returns-5)
