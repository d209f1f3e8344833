-- `set_stage::put_row_again` meets its contract. Assumes nothing.
use mathlib.Core.Path.{◌≡◌, refl, sym, ap, ◌∙◌}
use Prim.Native.Nat.{ℕ, suc, ◌+◌, ◌-◌, ◌*◌, ◌≤◌, ◌<◌}
use native.Mathlib.Omega.{arith}
use borrow.Author.Rules.{rules}
use lib.ListN.{length, get_or}
use Rattle.layout.specs.Words.{circuit_in}
use Rattle.diagrams.specs.States.{state_of}
use Rattle.collection.specs.Collecting as C
use Rattle.state_sets.specs.Sets.{sets_of, left}
use Rattle.state_sets.proofs.Follow.{again-done, again-out, again-more}
use Rattle.set_stage.specs.Table.{row_put}
use Rattle.set_stage.proofs.put_row_again.Statement.{statement}
use Rattle.set_stage.proofs.put_row_again.Tie as tie

put-row-requires : tie.Need-put_row-requires
put-row-requires c κs = c.requires

same_length : tie.Need-shape_of-w-then-put_row
same_length c = c.put_row.auto.w

same-length-2 : tie.Need-shape_of-table-then-put_row
same-length-2 c = c.put_row.auto.table

returns : tie.Need-returns-then-put_row
returns c =
    let a = c.args in
    again-done (row_put (circuit_in a.m.now) a.b a.plan.now a.r) (sets_of a.w.now a.table.now) (sets_of c.put_row.new.w c.put_row.new.table)
    (ap (left c.put_row.new.w c.put_row.new.table) (sym c.if-put_row.true) ∙ c.put_row.ensures)

put-row-requires-2 : tie.Need-put_row-requires-in-Ok
put-row-requires-2 c κs =
    let e : length c.collect.new.roots ≡ length c.args.table.now = c.collect.auto.roots ∙ c.put_row.auto.table in
    (c.requires.0, rw e c.requires.1)

same-length-3 : tie.Need-shape_of-w-in-Err
same-length-3 c = c.collect.auto.w ∙ c.put_row.auto.w

same-length-4 : tie.Need-shape_of-table-in-Err
same-length-4 c = c.collect.auto.roots ∙ c.put_row.auto.table

returns-2 : tie.Need-returns-in-Err
returns-2 c =
    let a = c.args in
    again-out (row_put (circuit_in a.m.now) a.b a.plan.now a.r) (sets_of a.w.now a.table.now) (sets_of c.put_row.new.w c.put_row.new.table)
    (state_of c.collect.new.w) c.collect.new.roots (ap (left c.put_row.new.w c.put_row.new.table) (sym c.if-put_row.false) ∙ c.put_row.ensures)
    (ap (λ (r : C.Collected). C.collection (state_of c.collect.new.w) c.collect.new.roots (C.is_kept r)) (sym c.in-Err.is) ∙ c.collect.ensures)

same-length-5 : tie.Need-shape_of-w-in-Ok
same-length-5 c = c.put_row-in-Ok.auto.w ∙ c.collect.auto.w ∙ c.put_row.auto.w

same-length-6 : tie.Need-shape_of-table-in-Ok
same-length-6 c = c.put_row-in-Ok.auto.table ∙ c.collect.auto.roots ∙ c.put_row.auto.table

returns-3 : tie.Need-returns-in-Ok
returns-3 c =
    let a = c.args in
    again-more (row_put (circuit_in a.m.now) a.b a.plan.now a.r) (sets_of a.w.now a.table.now) (sets_of c.put_row.new.w c.put_row.new.table)
    (state_of c.collect.new.w) c.collect.new.roots _ (ap (left c.put_row.new.w c.put_row.new.table) (sym c.if-put_row.false) ∙ c.put_row.ensures)
    (ap (λ (r : C.Collected). C.collection (state_of c.collect.new.w) c.collect.new.roots (C.is_kept r)) (sym c.in-Ok.is) ∙ c.collect.ensures)
    c.put_row-in-Ok.ensures

pub put_row_again_spec : {M : Type 1} → statement M
put_row_again_spec =
    tie.close
    (tie.spec put-row-requires same_length same-length-2 returns (λ c κs. search rules) (λ c. search rules) (λ c. search rules) put-row-requires-2 same-length-3 same-length-4 returns-2 same-length-5 same-length-6 returns-3)
