-- `set_table::put_start_again` meets its contract. Assumes nothing.
use mathlib.Core.Path.{◌≡◌, sym, ap, ◌∙◌}
use native.Mathlib.Omega.{arith}
use borrow.Author.Rules.{rules}
use lib.ListN.{length}
use Rattle.layout.specs.Words.{circuit_in}
use Rattle.diagrams.specs.States.{state_of}
use Rattle.collection.specs.Collecting as C
use Rattle.state_sets.specs.Sets.{sets_of, left}
use Rattle.state_sets.proofs.Follow.{again-done, again-out, again-more}
use Rattle.set_attempt.specs.Attempt.{start_put}
use Rattle.set_table.proofs.put_start_again.Statement.{statement}
use Rattle.set_table.proofs.put_start_again.Tie as tie

put-start-requires : tie.Need-put_start-requires
put-start-requires c κs = c.requires

same_length : tie.Need-shape_of-w-then-put_start
same_length c = c.put_start.auto.w

same-length-2 : tie.Need-shape_of-table-then-put_start
same-length-2 c = c.put_start.auto.table

returns : tie.Need-returns-then-put_start
returns c =
    let a = c.args in
    again-done (start_put (circuit_in a.m.now) a.latches.now a.rows) (sets_of a.w.now a.table.now)
    (sets_of c.put_start.new.w c.put_start.new.table) (ap (left c.put_start.new.w c.put_start.new.table) (sym c.if-put_start.true) ∙ c.put_start.ensures)

put-start-requires-2 : tie.Need-put_start-requires-in-Ok
put-start-requires-2 c κs =
    let e : length c.collect.new.roots ≡ length c.args.table.now = c.collect.auto.roots ∙ c.put_start.auto.table in
    (c.requires.0, (c.requires.1.0, c.requires.1.1, omega (arith, c.requires.1.2)))

same-length-3 : tie.Need-shape_of-w-in-Err
same-length-3 c = c.collect.auto.w ∙ c.put_start.auto.w

same-length-4 : tie.Need-shape_of-table-in-Err
same-length-4 c = c.collect.auto.roots ∙ c.put_start.auto.table

returns-2 : tie.Need-returns-in-Err
returns-2 c =
    let a = c.args in
    again-out (start_put (circuit_in a.m.now) a.latches.now a.rows) (sets_of a.w.now a.table.now)
    (sets_of c.put_start.new.w c.put_start.new.table) (state_of c.collect.new.w) c.collect.new.roots
    (ap (left c.put_start.new.w c.put_start.new.table) (sym c.if-put_start.false) ∙ c.put_start.ensures)
    (ap (λ (r : C.Collected). C.collection (state_of c.collect.new.w) c.collect.new.roots (C.is_kept r)) (sym c.in-Err.is) ∙ c.collect.ensures)

same-length-5 : tie.Need-shape_of-w-in-Ok
same-length-5 c = c.put_start-in-Ok.auto.w ∙ c.collect.auto.w ∙ c.put_start.auto.w

same-length-6 : tie.Need-shape_of-table-in-Ok
same-length-6 c =
    c.put_start-in-Ok.auto.table ∙ c.collect.auto.roots
    ∙ c.put_start.auto.table

returns-3 : tie.Need-returns-in-Ok
returns-3 c =
    let a = c.args in
    again-more (start_put (circuit_in a.m.now) a.latches.now a.rows) (sets_of a.w.now a.table.now)
    (sets_of c.put_start.new.w c.put_start.new.table) (state_of c.collect.new.w) c.collect.new.roots _
    (ap (left c.put_start.new.w c.put_start.new.table) (sym c.if-put_start.false) ∙ c.put_start.ensures)
    (ap (λ (r : C.Collected). C.collection (state_of c.collect.new.w) c.collect.new.roots (C.is_kept r)) (sym c.in-Ok.is) ∙ c.collect.ensures)
    c.put_start-in-Ok.ensures

pub put_start_again_spec : {M : Type 1} → statement M
put_start_again_spec =
    tie.close
    (tie.spec put-start-requires same_length same-length-2 returns (λ c κs. search rules) (λ c. search rules) (λ c. search rules) put-start-requires-2 same-length-3 same-length-4 returns-2 same-length-5 same-length-6 returns-3)
