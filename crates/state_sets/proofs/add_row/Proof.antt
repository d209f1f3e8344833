-- `state_sets::add_row` meets its contract. Assumes nothing.
use mathlib.Core.Path.{◌≡◌, refl, sym, ap, ◌∙◌}
use Prim.Native.Nat.{ℕ, suc, ◌+◌, ◌-◌, ◌*◌, ◌≤◌, ◌<◌}
use native.Mathlib.Omega.{arith}
use borrow.Author.Rules.{rules}
use lib.ListN.{length, get_or, set}
use Rattle.diagrams.specs.States.{state_of, left}
use Rattle.state_sets.proofs.Follow.{added_none, added-edge}
use Rattle.state_sets.proofs.add_row.Statement.{statement}
use Rattle.state_sets.proofs.add_row.Tie as tie

with-row-requires : tie.Need-with_row-requires
with-row-requires c κs = (c.requires.0, c.requires.1)

slice-write-table : tie.Need-bounds-table-257
slice-write-table c = omega (arith, c.requires.0.room)

same_length : tie.Need-shape_of-w-in-Err
same_length c = c.with_row.auto.w

same-length-2 : tie.Need-shape_of-table-in-Err
same-length-2 c = refl

returns : tie.Need-returns-in-Err
returns c =
    let a = c.args in
    added_none a.s.vars a.next a.r a.table.now (state_of a.w.now) (state_of c.with_row.new.w)
    (ap (left c.with_row.new.w) (sym c.in-Err.is) ∙ c.with_row.ensures)

same-length-3 : tie.Need-shape_of-w-in-Ok
same-length-3 c = c.with_row.auto.w

returns-2 : tie.Need-returns-in-Ok
returns-2 c =
    let a = c.args in
    added-edge a.s.vars a.next a.r a.table.now (state_of a.w.now) (state_of c.with_row.new.w) c.in-Ok.e
    (ap (left c.with_row.new.w) (sym c.in-Ok.is) ∙ c.with_row.ensures)

pub add_row_spec : {M : Type 1} → statement M
add_row_spec =
    tie.close
    (tie.spec with-row-requires (λ c. search rules) (λ c. search rules) slice-write-table same_length same-length-2 returns same-length-3 (λ c. search rules) returns-2)
