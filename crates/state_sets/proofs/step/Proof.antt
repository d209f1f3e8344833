-- `state_sets::step` meets its contract. Assumes nothing.
use mathlib.Core.Path.{◌≡◌, refl, sym, ap, ◌∙◌}
use Prim.Native.Nat.{ℕ, suc, ◌+◌, ◌-◌, ◌*◌, ◌≤◌, ◌<◌}
use native.Mathlib.Omega.{arith}
use borrow.Author.Rules.{rules}
use lib.ListN.{length, get_or, set}
use Rattle.diagrams.specs.States.{state_of}
use Rattle.state_sets.specs.Sets.{sets_of}
use Rattle.state_sets.proofs.Follow.{step_row, step-close}
use Rattle.state_sets.proofs.step.Statement.{statement}
use Rattle.state_sets.proofs.step.Tie as tie

add-row-requires : tie.Need-add_row-requires
add-row-requires c κs = (c.requires.0, (c.requires.1, c.if-r-s.true))

same_length : tie.Need-shape_of-w-then-r-s
same_length c = c.add_row.auto.w

same-length-2 : tie.Need-shape_of-table-then-r-s
same-length-2 c = c.add_row.auto.table

returns : tie.Need-returns-then-r-s
returns c =
    let a = c.args in
    step_row a.s.vars a.s.rows a.next a.r (sets_of a.w.now a.table.now) _ c.if-r-s.true c.add_row.ensures

close-requires : tie.Need-close-requires
close-requires c κs = (omega (arith, c.requires.0.room), c.requires.1)

same-length-3 : tie.Need-shape_of-w
same-length-3 c = c.close.auto.w

same-length-4 : tie.Need-shape_of-table
same-length-4 c = c.close.auto.table

returns-2 : tie.Need-returns
returns-2 c =
    let a = c.args in
    step-close a.s.vars a.s.rows a.next a.r (sets_of a.w.now a.table.now) _ c.if-r-s.false c.close.ensures

pub step_spec : {M : Type 1} → statement M
step_spec =
    tie.close
    (tie.spec add-row-requires same_length same-length-2 returns close-requires same-length-3 same-length-4 returns-2)
