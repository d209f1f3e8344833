-- `pinning::tie` meets its contract. Assumes nothing.
use mathlib.Core.Path.{sym, ap, ◌∙◌}
use mathlib.Core.Bool.{not, beq}
use Prim.Native.Nat.{ℕ}
use native.Mathlib.Omega.{arith}
use lib.Dec.{eqb}
use lib.ListN.{get_or}
use Rattle.literals.specs.Literal.{signed}
use Rattle.pinning.proofs.Tables.{get_d_any, get_d_past, constant-held, constant-free}
use borrow.Author.Rules.{rules}
use Rattle.pinning.proofs.tie.Statement.{statement}
use Rattle.pinning.proofs.tie.Tie as tie
use Rattle.pinning.proofs.tie.Reads as reads
use Rattle.pinning.proofs.tie.Lts as lts

returns : tie.Need-returns-then-table-v
returns c =
    let a = c.args in
    let v = a.l.0.0 in
    constant-free (get_or a.table.now v 2) a.l (omega (arith, get_d_past a.table.now v 2 (omega arith)))

returns-2 : tie.Need-returns-then-p-lt2
returns-2 c =
    let a = c.args in
    let v = a.l.0.0 in
    let e = get_d_any a.table.now v 0 2 (omega arith) in
    ap (λ (p : ℕ). signed 0 (not (beq a.l.1 (eqb p 1)))) e ∙ constant-held (get_or a.table.now v 2) a.l (omega (arith, e))

returns-3 : tie.Need-returns
returns-3 c =
    let a = c.args in
    let v = a.l.0.0 in
    let e = get_d_any a.table.now v 0 2 (omega arith) in
    constant-free (get_or a.table.now v 2) a.l (omega (arith, e))

pub tie_spec : {M : Type 1} → statement M
tie_spec =
    tie.close
    (tie.spec (λ c. search rules) returns (λ c. search rules) returns-2 returns-3)
