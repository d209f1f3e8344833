-- `gate_order::count_waits` meets its contract. Assumes nothing.
use native.Mathlib.Omega.{arith}
use borrow.Author.Rules.{rules}
use Prim.Native.Nat.{◌+◌, ◌*◌}
use lib.ListN.{get_or}
use Rattle.gate_order.proofs.Counts.{lacks-few, waits-free, waits-taken}
use Rattle.gate_order.proofs.count_waits.Statement.{statement}
use Rattle.gate_order.proofs.count_waits.Tie as tie

cast-own : tie.Need-overflow_cast-own
cast-own c = omega (arith, c.requires.0.known c.args.i c.requires.1, c.shared_slice_known-4-1.given c.args.i)

mul-if1 : tie.Need-offset_bounds-table-own
mul-if1 c = omega (arith, c.requires.0.known c.args.i c.requires.1)

shared-slice-read-if1 : tie.Need-bounds-table-own
shared-slice-read-if1 c = omega (arith, c.requires.0.known c.args.i c.requires.1)

lacks-number-requires : tie.Need-lacks_number-requires
lacks-number-requires c κs = c.requires.0.used (2 * c.args.i) (omega (arith, c.requires.0.pairs))

lacks-number-requires-2 : tie.Need-lacks_number-requires-then-table-own-eq0
lacks-number-requires-2 c κs = c.requires.0.used (2 * c.args.i + 1) (omega (arith, c.requires.0.pairs))

add-result : tie.Need-overflow_add-result
add-result c =
    let a = c.args in
    omega (arith, c.lacks_number-then-table-own-eq0.ensures, c.lacks_number.ensures, lacks-few a.table.now (get_or a.ops.now (2 * a.i) 0), lacks-few a.table.now (get_or a.ops.now (2 * a.i + 1) 0))

returns : tie.Need-returns-then-table-own-eq0
returns c =
    let a = c.args in
    waits-free a.vars.now a.ops.now a.table.now a.i c.if-table-own-eq0.true _ _ c.lacks_number.ensures c.lacks_number-then-table-own-eq0.ensures

returns-2 : tie.Need-returns
returns-2 c =
    let a = c.args in
    waits-taken a.vars.now a.ops.now a.table.now a.i c.if-table-own-eq0.false

pub count_waits_spec : {M : Type 1} → statement M
count_waits_spec =
    tie.close
    (tie.spec (λ c. search rules) (λ c. search rules) cast-own mul-if1 shared-slice-read-if1 (λ c. search rules) (λ c. search rules) (λ c. search rules) lacks-number-requires (λ c. search rules) (λ c. search rules) (λ c. search rules) (λ c. search rules) lacks-number-requires-2 add-result returns returns-2)
