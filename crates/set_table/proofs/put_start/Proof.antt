-- `set_table::put_start` meets its contract. Assumes nothing.
use mathlib.Core.Path.{sym, ap, ◌∙◌}
use native.Mathlib.Omega.{arith}
use borrow.Author.Rules.{rules}
use lib.ListN.{length}
use Rattle.layout.specs.Words.{circuit_in}
use Rattle.diagrams.specs.States.{state_of, left}
use Rattle.set_table.proofs.Table.{place-fits, start_none, start-edge}
use Rattle.set_table.proofs.put_start.Statement.{statement}
use Rattle.set_table.proofs.put_start.Tie as tie

row-at-requires : tie.Need-row_at-at-requires
row-at-requires c κs = (c.requires.1.0, omega (arith, c.requires.1.1))

with-resets-requires : tie.Need-with_resets-requires
with-resets-requires c κs = (c.requires.0, c.requires.1.0)

mul-table : tie.Need-offset_bounds-table-at
mul-table c =
    let a = c.args in
    omega (
      arith,
      place-fits (length a.latches.now) a.rows _ (length a.table.now) c.row_at-at.result c.row_at-at.ensures
          (omega arith) c.requires.1.2,
    )

slice-write-table : tie.Need-bounds-table-at
slice-write-table c =
    let a = c.args in
    omega (
      arith,
      place-fits (length a.latches.now) a.rows _ (length a.table.now) c.row_at-at.result c.row_at-at.ensures
          (omega arith) c.requires.1.2,
    )

same_length : tie.Need-shape_of-w-in-Err
same_length c = c.with_resets.auto.w

returns : tie.Need-returns-in-Err
returns c =
    let a = c.args in
    start_none (circuit_in a.m.now) a.latches.now a.rows a.table.now (state_of a.w.now) (state_of c.with_resets.new.w)
    (ap (left c.with_resets.new.w) (sym c.in-Err.is) ∙ c.with_resets.ensures)

same-length-2 : tie.Need-shape_of-w-in-Ok
same-length-2 c = c.with_resets.auto.w

returns-2 : tie.Need-returns-in-Ok
returns-2 c =
    let a = c.args in
    start-edge (circuit_in a.m.now) a.latches.now a.rows a.table.now (state_of a.w.now) c.row_at-at.result
    c.row_at-at.ensures (state_of c.with_resets.new.w) c.in-Ok.e (ap (left c.with_resets.new.w) (sym c.in-Ok.is) ∙ c.with_resets.ensures)

pub put_start_spec : {M : Type 1} → statement M
put_start_spec =
    tie.close
    (tie.spec row-at-requires with-resets-requires (λ c. search rules) (λ c. search rules) mul-table slice-write-table same_length returns same-length-2 (λ c. search rules) returns-2)
