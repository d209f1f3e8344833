-- `set_stage::put_rows` meets its contract. The invariant: what is left of the rows ends as all of them do. Assumes nothing.
use Rattle.std.proofs.lemmas.Bool.{not_from_true}
use Rattle.std.proofs.lemmas.Bool.{not_from_false}
use mathlib.Core.Path.{◌≡◌, refl, sym, ap, ◌∙◌}
use Prim.Native.Nat.{ℕ, suc, ◌+◌, ◌-◌, ◌*◌, ◌≤◌, ◌<◌}
use native.Mathlib.Omega.{arith}
use borrow.Author.Rules.{rules}
use lib.ListN.{length, get_or}
use Rattle.layout.specs.Words.{circuit_in}
use Rattle.state_sets.specs.Sets.{sets_of, left, turns}
use Rattle.state_sets.proofs.Follow.{refused, granted, turns-none, turns-stop, turns_more}
use Rattle.set_stage.specs.Table.{row_put, rows_put}
use Rattle.set_stage.proofs.Follow.{room_of, rows_all}
use Rattle.set_stage.proofs.put_rows.Statement.{statement}
use Rattle.set_stage.proofs.put_rows.Tie as tie

abbrev invariant-loop : tie.invariant-loop-r
invariant-loop w₀ m layout b plan rows table₀ r₀ w table r =
    (length w ≡ length w₀) × (length table ≡ length table₀) × (r ≤ rows)
    × (turns (row_put (circuit_in m) b plan) (rows - r) r (sets_of w table) ≡ rows_put (circuit_in m) b plan rows (sets_of w₀ table₀))

abbrev decreases-loop : tie.decreases-loop-r
decreases-loop w₀ m layout b plan rows table₀ r₀ w table r = rows - r

loop-holds : tie.Need-loop-r-init invariant-loop decreases-loop
loop-holds c =
    let a = c.args in
    (refl, refl, omega arith, rows_all (circuit_in a.m.now) a.b a.plan.now a.rows (sets_of a.w.now a.table.now) (a.rows - 0) (omega arith))

put-row-again-requires : tie.Need-put_row_again-requires invariant-loop decreases-loop
put-row-again-requires c κs =
    let a = c.args in
    (c.requires.0, rw c.loop-r.invariant.1 (room_of a.plan.now a.rows c.loop-r.r (length a.table.now) (omega arith) c.requires.1))

same_length : tie.Need-shape_of-w-then-not-put_row_again invariant-loop decreases-loop
same_length c = c.put_row_again.auto.w ∙ c.loop-r.invariant.0

same-length-2 : tie.Need-shape_of-table-then-not-put_row_again invariant-loop decreases-loop
same-length-2 c = c.put_row_again.auto.table ∙ c.loop-r.invariant.1

returns : tie.Need-returns-then-not-put_row_again invariant-loop decreases-loop
returns c =
    let a = c.args in
    turns-stop (row_put (circuit_in a.m.now) a.b a.plan.now) (a.rows - c.loop-r.r) (a.rows - (c.loop-r.r + 1)) c.loop-r.r (sets_of c.loop-r.w c.loop-r.table)
    (sets_of c.put_row_again.new.w c.put_row_again.new.table) (omega (arith, c.loop-r-test.true))
    (ap (left c.put_row_again.new.w c.put_row_again.new.table) (sym (refused c.put_row_again.result (not_from_false _ c.if-not-put_row_again.true))) ∙ c.put_row_again.ensures)
    ∙ c.loop-r.invariant.3

add_r : tie.Need-overflow_add-r invariant-loop decreases-loop
add_r c = omega (arith, c.requires.1.rows, c.loop-r-test.true)

loop-less : tie.Need-loop-r-smaller invariant-loop decreases-loop
loop-less c = omega (arith, c.loop-r-test.true)

loop-again : tie.Need-loop-r-preserved invariant-loop decreases-loop
loop-again c =
    let a = c.args in (
      c.put_row_again.auto.w ∙ c.loop-r.invariant.0,
      c.put_row_again.auto.table ∙ c.loop-r.invariant.1,
      omega (arith, c.loop-r-test.true),
      turns_more (row_put (circuit_in a.m.now) a.b a.plan.now) (a.rows - c.loop-r.r) (a.rows - (c.loop-r.r + 1)) c.loop-r.r (c.loop-r.r + 1) (sets_of c.loop-r.w c.loop-r.table)
          (sets_of c.put_row_again.new.w c.put_row_again.new.table) (omega (arith, c.loop-r-test.true)) (omega arith)
          (ap (left c.put_row_again.new.w c.put_row_again.new.table) (sym (granted c.put_row_again.result (not_from_true _ c.if-not-put_row_again.false))) ∙ c.put_row_again.ensures)
          ∙ c.loop-r.invariant.3,
    )

same-length-3 : tie.Need-shape_of-w invariant-loop decreases-loop
same-length-3 c = c.loop-r.invariant.0

same-length-4 : tie.Need-shape_of-table invariant-loop decreases-loop
same-length-4 c = c.loop-r.invariant.1

returns-2 : tie.Need-returns invariant-loop decreases-loop
returns-2 c =
    let a = c.args in
    sym (turns-none (row_put (circuit_in a.m.now) a.b a.plan.now) (a.rows - c.loop-r.r) c.loop-r.r (sets_of c.loop-r.w c.loop-r.table) (omega (arith, c.loop-r.invariant.2))) ∙ c.loop-r.invariant.3

pub put_rows_spec : {M : Type 1} → statement M
put_rows_spec =
    tie.close
    (tie.spec invariant-loop decreases-loop loop-holds put-row-again-requires same_length same-length-2 returns add_r loop-less loop-again same-length-3 same-length-4 returns-2)
