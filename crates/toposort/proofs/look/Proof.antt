-- `look` meets its contract: an entry above base names a gate, and pos says how far the search is with it.
-- Assumes nothing.
use Rattle.toposort.proofs.Looks.{look-done}
use lib.ListN.{get_or}
use native.Mathlib.Omega.{arith}
use Prim.Native.Nat.{◌-◌}
use borrow.Author.Rules.{rules}
use Rattle.toposort.proofs.look.Statement.{statement}
use Rattle.toposort.proofs.look.Tie as tie

cast-a : tie.Need-overflow_cast-a
cast-a c = omega (arith, c.shared_slice_known-1.given c.args.v.0)

mul-p : tie.Need-offset_bounds-pos-h
mul-p c = omega (arith, c.requires.1.1 c.args.v.0)

shared-slice-read-p : tie.Need-bounds-pos-h
shared-slice-read-p c = omega (arith, c.requires.1.1 c.args.v.0)

cast-p : tie.Need-overflow_cast-p
cast-p c =
    omega (arith, c.shared_slice_known-2-1.given (get_or c.args.table.now c.args.v.0 0 - c.args.base - 1))

returns-2 : tie.Need-returns-then-p-eq0
returns-2 c = omega (arith, c.requires.1.1 c.args.v.0)

returns-3 : tie.Need-returns-then-p-m
returns-3 c = (
  get_or c.args.table.now c.args.v.0 0 - c.args.base - 1,
  omega (arith, c.requires.1.1 c.args.v.0),
  omega (arith, c.requires.1.1 c.args.v.0),
  c.if-p-m.true,
)

returns-4 : tie.Need-returns
returns-4 c =
    look-done c.args.pos.now c.args.base _ (get_or c.args.table.now c.args.v.0 0) c.if-p-eq0.false c.if-p-m.false

pub look_spec : {M : Type 1} → statement M
look_spec =
    tie.close
    (tie.spec (λ c. search rules) (λ c. search rules) (λ c. search rules) cast-a (λ c. search rules) (λ c. search rules) (λ c. search rules) mul-p shared-slice-read-p cast-p returns-2 returns-3 returns-4)
