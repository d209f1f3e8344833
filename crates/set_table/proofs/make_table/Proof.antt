-- `set_table::make_table` meets its contract. Assumes nothing.
use Rattle.std.proofs.lemmas.Bool.{not_from_true}
use Rattle.std.proofs.lemmas.Bool.{not_from_false}
use mathlib.Core.Path.{refl, sym, ap, ◌∙◌}
use Prim.Native.Nat.{◌+◌, ◌-◌}
use native.Mathlib.Omega.{arith}
use lib.ListN.{length, take, drop}
use Rattle.layout.specs.Words.{word, circuit_in}
use Rattle.state_sets.specs.Sets.{sets_of, left}
use Rattle.state_sets.proofs.Follow.{refused, granted}
use Rattle.set_table.proofs.Table.{made-stop, made_all, rows_are, latches-are, start-room, rows-room}
use Rattle.set_table.proofs.make_table.Statement.{statement}
use Rattle.set_table.proofs.make_table.Tie as tie

rows-of-requires : tie.Need-rows_of-rows-requires
rows-of-requires c κs = (omega (arith, c.requires.1.whole), c.requires.1.inputs)

shared-slice-read-end : tie.Need-bounds-plan-0
shared-slice-read-end c = omega (arith, c.requires.1.whole)

cast-end : tie.Need-overflow_cast-end
cast-end c = omega (arith, c.requires.1.vars)

add-end : tie.Need-overflow_add-end
add-end c = omega (arith, c.requires.1.vars)

sub-put-start-again : tie.Need-slice_bounds-put_start_again-count
sub-put-start-again c = omega (arith, c.requires.1.vars)

part-put-start-again-start : tie.Need-slice_bounds-put_start_again-start
part-put-start-again-start c = omega (arith, c.requires.1.vars)

part-put-start-again-end : tie.Need-slice_bounds-put_start_again-end
part-put-start-again-end c = omega (arith, c.requires.1.whole)

put-start-again-requires : tie.Need-put_start_again-requires
put-start-again-requires c κs =
    let a = c.args in
    let end = 3 + word a.plan.now 0 in
    let h = start-room a.plan.now (length a.table.now) c.requires.1 c.rows_of-rows.result c.rows_of-rows.ensures.0 (take (end - 3) (drop 3 a.plan.now))
    (latches-are a.plan.now (length a.table.now) c.requires.1 end refl) in
    (c.requires.0, (h.0, c.rows_of-rows.ensures.1, h.1))

same_length : tie.Need-shape_of-w-then-not-put_start_again
same_length c = c.put_start_again.auto.w

same-length-2 : tie.Need-shape_of-table-then-not-put_start_again
same-length-2 c = c.put_start_again.auto.table

returns : tie.Need-returns-then-not-put_start_again
returns c =
    let a = c.args in
    let end = 3 + word a.plan.now 0 in
    made-stop (circuit_in a.m.now) a.b a.plan.now (sets_of a.w.now a.table.now) c.rows_of-rows.result (take (end - 3) (drop 3 a.plan.now))
    (rows_are a.plan.now (length a.table.now) c.requires.1 c.rows_of-rows.result c.rows_of-rows.ensures.0)
    (latches-are a.plan.now (length a.table.now) c.requires.1 end refl) (sets_of c.put_start_again.new.w c.put_start_again.new.table)
    (ap (left c.put_start_again.new.w c.put_start_again.new.table) (sym (refused c.put_start_again.result (not_from_false _ c.if-not-put_start_again.true))) ∙ c.put_start_again.ensures)

put-rows-requires : tie.Need-put_rows-requires
put-rows-requires c κs =
    let a = c.args in (
      c.requires.0,
      rw c.put_start_again.auto.table
          (rows-room a.plan.now (length a.table.now) c.requires.1 c.rows_of-rows.result c.rows_of-rows.ensures.0 c.rows_of-rows.ensures.1),
    )

same-length-3 : tie.Need-shape_of-w
same-length-3 c = c.put_rows.auto.w ∙ c.put_start_again.auto.w

same-length-4 : tie.Need-shape_of-table
same-length-4 c = c.put_rows.auto.table ∙ c.put_start_again.auto.table

returns-2 : tie.Need-returns
returns-2 c =
    let a = c.args in
    let end = 3 + word a.plan.now 0 in
    made_all (circuit_in a.m.now) a.b a.plan.now (sets_of a.w.now a.table.now) c.rows_of-rows.result (take (end - 3) (drop 3 a.plan.now))
    (rows_are a.plan.now (length a.table.now) c.requires.1 c.rows_of-rows.result c.rows_of-rows.ensures.0)
    (latches-are a.plan.now (length a.table.now) c.requires.1 end refl) (sets_of c.put_start_again.new.w c.put_start_again.new.table) _
    (ap (left c.put_start_again.new.w c.put_start_again.new.table) (sym (granted c.put_start_again.result (not_from_true _ c.if-not-put_start_again.false))) ∙ c.put_start_again.ensures)
    c.put_rows.ensures

pub make_table_spec : {M : Type 1} → statement M
make_table_spec =
    tie.close
    (tie.spec rows-of-requires shared-slice-read-end cast-end add-end sub-put-start-again part-put-start-again-start part-put-start-again-end put-start-again-requires same_length same-length-2 returns put-rows-requires same-length-3 same-length-4 returns-2)
