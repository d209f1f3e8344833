-- `set_stage::put_row` meets its contract. Assumes nothing.
use mathlib.Core.Path.{◌≡◌, refl, sym, ap, ◌∙◌}
use Prim.Native.Nat.{ℕ, suc, ◌+◌, ◌-◌, ◌*◌, ◌≤◌, ◌<◌}
use native.Mathlib.Omega.{arith}
use borrow.Author.Rules.{rules}
use lib.ListN.{length, get_or}
use lib.ListN.{take, drop, length-drop}
use lib.Seq.{length-take-le}
use Rattle.layout.specs.Words.{circuit_in}
use Rattle.diagrams.specs.States.{state_of}
use Rattle.state_sets.proofs.Room.{row_is}
use Rattle.set_stage.proofs.Follow.{room_small, room_at, row_put_lem}
use Rattle.set_stage.proofs.put_row.Statement.{statement}
use Rattle.set_stage.proofs.put_row.Tie as tie

shared-slice-read-vars : tie.Need-bounds-plan-0
shared-slice-read-vars c = omega (arith, c.requires.1.counted)

add_at : tie.Need-overflow_add-at
add_at c = omega (arith, c.requires.1.vars)

mul_at : tie.Need-overflow_mul-at
mul_at c = let a = c.args in omega (arith, room_small a.plan.now a.r (length a.table.now) c.requires.1)

add-at-2 : tie.Need-overflow_add-at-2
add-at-2 c = let a = c.args in omega (arith, room_small a.plan.now a.r (length a.table.now) c.requires.1)

add-end : tie.Need-overflow_add-end
add-end c = let a = c.args in omega (arith, room_small a.plan.now a.r (length a.table.now) c.requires.1, c.requires.1.vars)

add-end-2 : tie.Need-overflow_add-end-2
add-end-2 c = let a = c.args in omega (arith, room_small a.plan.now a.r (length a.table.now) c.requires.1, c.requires.1.vars)

cast-make-row : tie.Need-overflow_cast-r
cast-make-row c = omega (arith, c.requires.1.rows)

mul-make-row : tie.Need-offset_bounds-table-at
mul-make-row c = let a = c.args in omega (arith, room_small a.plan.now a.r (length a.table.now) c.requires.1, c.requires.1.vars)

sub-make-row : tie.Need-slice_bounds-make_row-count
sub-make-row c = omega arith

part-make-row-start : tie.Need-slice_bounds-make_row-start
part-make-row-start c = omega arith

part-make-row-end : tie.Need-slice_bounds-make_row-end
part-make-row-end c = let a = c.args in omega (arith, room_at a.plan.now a.r (length a.table.now) c.requires.1)

make-row-requires : tie.Need-make_row-requires
make-row-requires c κs =
    let a = c.args in
    let at = 258 + a.r * (get_or a.plan.now 0 0 + 2) in
    let k = at + get_or a.plan.now 0 0 + 2 - at in (
      c.requires.0,
      length-take-le k (drop at a.table.now) (omega (arith, length-drop at a.table.now, room_at a.plan.now a.r (length a.table.now) c.requires.1))
          ∙ omega arith,
    )

same_length : tie.Need-shape_of-w
same_length c = c.make_row.auto.w

returns : tie.Need-returns
returns c =
    let a = c.args in
    let at = 258 + a.r * (get_or a.plan.now 0 0 + 2) in
    let k = at + get_or a.plan.now 0 0 + 2 - at in
    row_put_lem (circuit_in a.m.now) a.b a.plan.now a.r (state_of a.w.now) a.table.now c.make_row.new.w c.make_row.new.row _ at k
    (sym (row_is (get_or a.plan.now 0 0) a.r))
    (c.make_row.auto.row ∙ length-take-le k (drop at a.table.now) (omega (arith, length-drop at a.table.now, room_at a.plan.now a.r (length a.table.now) c.requires.1)))
    c.make_row.ensures

pub put_row_spec : {M : Type 1} → statement M
put_row_spec =
    tie.close
    (tie.spec shared-slice-read-vars (λ c. search rules) add_at mul_at add-at-2 add-end add-end-2 cast-make-row mul-make-row sub-make-row part-make-row-start part-make-row-end make-row-requires same_length (λ c. search rules) returns)
