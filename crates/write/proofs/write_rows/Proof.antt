-- `write::write_rows` meets its contract. The loop's invariant: the rows are written but for those that are left. The measure is the number
-- of rows left. Assumes nothing.
use Prim.Native.Nat.{◌+◌, ◌-◌}
use native.Mathlib.Omega.{arith}
use Rattle.output.specs.Row.{row_text}
use Rattle.write.specs.Rows.{row_count, rows_text, RowsIn}
use Rattle.write.proofs.Rows.{rows_more, rows_none, count_most, first-in, others-in}
use Rattle.output.proofs.Output.{Rest, rest-start, rest-room, rest_more, rest_end}
use Rattle.write.proofs.write_rows.Statement.{statement}
use Rattle.write.proofs.write_rows.Tie as tie

abbrev invariant-loop : tie.invariant-loop-left
invariant-loop m first n least most out₀ at end₀ p₀ left₀ out end p left = RowsIn m p left most × Rest out₀ at (rows_text least most m first n) out end (rows_text least most m p left)

abbrev decreases-loop : tie.decreases-loop-left
decreases-loop m first n least most out₀ at end₀ p₀ left₀ out end p left = left

loop-holds : tie.Need-loop-left-init invariant-loop decreases-loop
loop-holds c = (c.requires.0, rest-start c.args.out.now c.args.at _)

row-count-requires : tie.Need-row_count-count-requires invariant-loop decreases-loop
row-count-requires c κs =
    let i = c.loop-left.invariant.0 in
    (i.some_word, first-in c.args.m.now c.loop-left-test.true i)

put-row-requires : tie.Need-put_row-end-requires invariant-loop decreases-loop
put-row-requires c κs =
    let a = c.args in
    let m = a.m.now in
    let p = c.loop-left.p in
    let n = c.loop-left.left in
    let i = c.loop-left.invariant.0 in
    let t = c.loop-left-test.true in
    let e = c.row_count-count.ensures in (
      omega (arith, e, count_most m a.least a.most p c.requires.1, first-in m t i),
      rw e (rest-room (row_text m p (row_count a.least a.most m p)) (rows_text a.least a.most m (p + a.most) (n - 1)) c.requires.2
          (rw (rows_more m a.least a.most p n t) at c.loop-left.invariant.1)),
    )

add-p : tie.Need-overflow_add-p invariant-loop decreases-loop
add-p c =
    omega (arith, first-in c.args.m.now c.loop-left-test.true c.loop-left.invariant.0)

sub-left : tie.Need-overflow_sub-left invariant-loop decreases-loop
sub-left c = omega arith

loop-less : tie.Need-loop-left-smaller invariant-loop decreases-loop
loop-less c = omega arith

loop-again : tie.Need-loop-left-preserved invariant-loop decreases-loop
loop-again c =
    let a = c.args in
    let m = a.m.now in
    let p = c.loop-left.p in
    let n = c.loop-left.left in
    let t = c.loop-left-test.true in (
      others-in m t c.loop-left.invariant.0,
      rest_more (row_text m p (row_count a.least a.most m p)) (rows_text a.least a.most m (p + a.most) (n - 1)) c.requires.2
          (rw (rows_more m a.least a.most p n t) at c.loop-left.invariant.1) (rw c.row_count-count.ensures at c.put_row-end.ensures),
    )

same_length : tie.Need-shape_of-out invariant-loop decreases-loop
same_length c = c.loop-left.invariant.1.kept

returns : tie.Need-returns invariant-loop decreases-loop
returns c =
    let a = c.args in
    rest_end (rw (rows_none a.m.now a.least a.most c.loop-left.p c.loop-left.left c.loop-left-test.false) at c.loop-left.invariant.1)

pub write_rows_spec : {M : Type 1} → statement M
write_rows_spec =
    tie.close
    (tie.spec invariant-loop decreases-loop loop-holds row-count-requires put-row-requires add-p sub-left loop-less loop-again same_length returns)
