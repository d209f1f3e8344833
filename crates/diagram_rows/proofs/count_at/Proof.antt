-- `diagram_rows::count_at` meets its contract. Assumes nothing.
use mathlib.Core.Path.{refl, sym}
use mathlib.Core.List.{List}
use Prim.Native.Nat.{◌-◌}
use native.Mathlib.Omega.{arith}
use borrow.Author.Rules.{rules}
use lib.ListN.{get_or-eq_default}
use Rattle.diagram_rows.proofs.count_at.Statement.{statement}
use Rattle.diagram_rows.proofs.count_at.Tie as tie

shared-slice-read-result : tie.Need-bounds-plan-i
shared-slice-read-result c = omega (arith, c.if-i-plan.true)

cast-result : tie.Need-overflow_cast-result
cast-result c = omega (arith, c.shared_slice_known-1.given c.args.i)

returns : tie.Need-returns-then-i-plan
returns c = (refl, omega (arith, c.shared_slice_known-1.given c.args.i))

returns-2 : tie.Need-returns
returns-2 c = let a = c.args in (sym (get_or-eq_default a.plan.now 0 (omega (arith, c.if-i-plan.false))), omega arith)

pub count_at_spec : {M : Type 1} → statement M
count_at_spec =
    tie.close
    (tie.spec (λ c. search rules) shared-slice-read-result cast-result returns returns-2)
