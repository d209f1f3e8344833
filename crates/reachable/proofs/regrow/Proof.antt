-- `reachable::regrow` meets its contract. Assumes nothing.
use mathlib.Core.Path.{◌≡◌, refl}
use Prim.Native.Nat.{ℕ, ◌+◌, ◌*◌, ◌≤◌}
use native.Mathlib.Omega.{arith}
use lib.ListN.{length}
use Rattle.states.proofs.Places.{record-order}
use Rattle.reachable.specs.Asking.{Regrown}
use borrow.Author.Rules.{rules}
use Rattle.reachable.proofs.regrow.Statement.{statement}
use Rattle.reachable.proofs.regrow.Tie as tie

mul-if1 : tie.Need-overflow_mul-table
mul-if1 c = omega (arith, c.requires.0.few)

returns : tie.Need-returns-then-count-table
returns c = Regrown.same c.if-count-table.true

fill-requires : tie.Need-fill-requires
fill-requires c κs =
    let a = c.args in
    let P = c.requires in (
      record { some = omega (arith, c.if-count-table.false, P.1); few = omega (arith, P.3); heads = P.2 },
      (omega (arith, P.2, record-order (a.table.width + 4) a.count a.most P.1), omega (arith, P.1, P.3)),
    )

same_length : tie.Need-shape_of-records
same_length c = c.fill.auto.records

returns-2 : tie.Need-returns
returns-2 c = Regrown.grown (omega (arith, c.if-count-table.false)) c.fill.ensures

pub regrow_spec : {M : Type 1} → statement M
regrow_spec =
    tie.close
    (tie.spec mul-if1 returns fill-requires same_length returns-2)
