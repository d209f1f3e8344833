-- `write::rows_length` meets its contract. The loop's invariant: what is counted and the length of what is left are the length of the rows.
-- The measure is the number of rows left. Assumes nothing.
use mathlib.Core.Path.{◌≡◌, ap, ◌∙◌}
use Prim.Native.Nat.{◌+◌, ◌-◌}
use native.Mathlib.Omega.{arith}
use lib.ListN.{length}
use Rattle.write.specs.Rows.{rows_text, RowsIn}
use Rattle.write.proofs.Rows.{rows-longer, rows_none, rows-most, count_most, first-in, others-in}
use Rattle.write.proofs.rows_length.Statement.{statement}
use Rattle.write.proofs.rows_length.Tie as tie

abbrev invariant-loop : tie.invariant-loop-left
invariant-loop m first n least most total₀ p₀ left₀ total p left =
    RowsIn m p left most × (total + length (rows_text least most m p left) ≡ length (rows_text least most m first n))

abbrev decreases-loop : tie.decreases-loop-left
decreases-loop m first n least most total₀ p₀ left₀ total p left = left

loop-holds : tie.Need-loop-left-init invariant-loop decreases-loop
loop-holds c = (c.requires.0, omega arith)

row-count-requires : tie.Need-row_count-requires invariant-loop decreases-loop
row-count-requires c κs =
    let i = c.loop-left.invariant.0 in
    (i.some_word, first-in c.args.m.now c.loop-left-test.true i)

row-length-requires : tie.Need-row_length-total-requires invariant-loop decreases-loop
row-length-requires c κs =
    let a = c.args in
    let i = c.loop-left.invariant.0 in
    let n = count_most a.m.now a.least a.most c.loop-left.p c.requires.1 in
    let f = first-in a.m.now c.loop-left-test.true i in
    (omega (arith, c.row_count.ensures), omega (arith, c.row_count.ensures, i.wide))

more : (c : tie.After-row_length-total invariant-loop decreases-loop)
    → let a = c.args in
    length (rows_text a.least a.most a.m.now c.loop-left.p c.loop-left.left)
    ≡ c.row_length-total.result + length (rows_text a.least a.most a.m.now (c.loop-left.p + a.most) (c.loop-left.left - 1))
more c =
    let a = c.args in
    rows-longer a.m.now a.least a.most c.loop-left.p c.loop-left.left c.loop-left-test.true
    ∙ rw (c.row_length-total.ensures, c.row_count.ensures)

add_total : tie.Need-overflow_add-total invariant-loop decreases-loop
add_total c =
    let a = c.args in
    let i = c.loop-left.invariant.0 in
    omega (
      arith,
      more c,
      rows-most a.m.now a.least a.most a.first a.n c.requires.1 i.wide,
      c.requires.0.few,
      c.loop-left.invariant.1,
    )

add-p : tie.Need-overflow_add-p invariant-loop decreases-loop
add-p c =
    omega (arith, first-in c.args.m.now c.loop-left-test.true c.loop-left.invariant.0)

sub-left : tie.Need-overflow_sub-left invariant-loop decreases-loop
sub-left c = omega arith

loop-less : tie.Need-loop-left-smaller invariant-loop decreases-loop
loop-less c = omega arith

loop-again : tie.Need-loop-left-preserved invariant-loop decreases-loop
loop-again c =
    (others-in c.args.m.now c.loop-left-test.true c.loop-left.invariant.0, omega (arith, more c, c.loop-left.invariant.1))

returns : tie.Need-returns invariant-loop decreases-loop
returns c =
    let a = c.args in
    omega (arith, c.loop-left.invariant.1, ap length (rows_none a.m.now a.least a.most c.loop-left.p c.loop-left.left c.loop-left-test.false))

pub rows_length_spec : {M : Type 1} → statement M
rows_length_spec =
    tie.close
    (tie.spec invariant-loop decreases-loop loop-holds row-count-requires row-length-requires add_total add-p sub-left loop-less loop-again returns)
