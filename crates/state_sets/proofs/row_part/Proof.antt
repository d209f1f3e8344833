-- `state_sets::row_part` meets its contract. Assumes nothing.
use mathlib.Core.Path.{◌≡◌, refl, sym, ap, ◌∙◌}
use Prim.Native.Nat.{ℕ, suc, ◌+◌, ◌-◌, ◌*◌, ◌≤◌, ◌<◌}
use native.Mathlib.Omega.{arith}
use borrow.Author.Rules.{rules}
use lib.ListN.{length, get_or, set}
use Rattle.diagrams.specs.States.{state_of}
use Rattle.state_sets.proofs.Room.{row_fits, row_low}
use Rattle.state_sets.proofs.Follow.{row-part-hit, row-part-before}
use Rattle.state_sets.proofs.row_part.Statement.{statement}
use Rattle.state_sets.proofs.row_part.Tie as tie

row-at-requires : tie.Need-row_at-requires
row-at-requires c κs = (c.requires.0.vars, omega (arith, c.requires.0.rows, c.requires.1))

add_at : tie.Need-overflow_add-at
add_at c = let a = c.args in omega (arith, c.row_at.ensures, row_low a.s (length a.table.now) a.r c.requires.0 (omega (arith, c.requires.1)), c.requires.0.vars)

add-at-2 : tie.Need-overflow_add-at-then-next-eq0
add-at-2 c = let a = c.args in omega (arith, c.row_at.ensures, row_low a.s (length a.table.now) a.r c.requires.0 (omega (arith, c.requires.1)), c.requires.0.vars)

mul-t8 : tie.Need-offset_bounds-table-at
mul-t8 c = let a = c.args in omega (arith, c.row_at.ensures, row_low a.s (length a.table.now) a.r c.requires.0 (omega (arith, c.requires.1)), c.requires.0.vars)

shared-slice-read-t11 : tie.Need-bounds-table-at
shared-slice-read-t11 c = let a = c.args in omega (arith, c.row_at.ensures, row_fits a.s (length a.table.now) a.r c.requires.0 c.requires.1.1)

returns : tie.Need-returns-then-next-eq0
returns c =
    let a = c.args in
    row-part-hit a.s.vars a.next a.r (c.row_at.result + a.s.vars + 1) a.table.now (state_of a.w.now) c.if-next-eq0.true
    (ap (λ (k : ℕ). k + a.s.vars + 1) c.row_at.ensures)

sub-before : tie.Need-overflow_sub-next
sub-before c = omega (arith, c.if-next-eq0.false)

before-requires : tie.Need-before-requires
before-requires c κs = (c.requires.0, (omega (arith, c.requires.1), c.requires.1.1))

same_length : tie.Need-shape_of-w
same_length c = c.before-2.auto.w

returns-2 : tie.Need-returns
returns-2 c =
    let a = c.args in
    row-part-before a.s.vars a.next (a.next - 1) a.r a.table.now (state_of a.w.now) _ (omega (arith, c.if-next-eq0.false))
    c.before-2.ensures

pub row_part_spec : {M : Type 1} → statement M
row_part_spec =
    tie.close
    (tie.spec row-at-requires add_at add-at-2 mul-t8 shared-slice-read-t11 returns sub-before before-requires same_length returns-2)
