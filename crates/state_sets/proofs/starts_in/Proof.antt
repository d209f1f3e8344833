-- `state_sets::starts_in` meets its contract. Assumes nothing.
use mathlib.Core.Path.{◌≡◌, refl, sym, ap, ◌∙◌}
use Prim.Native.Nat.{ℕ, suc, ◌+◌, ◌-◌, ◌*◌, ◌≤◌, ◌<◌}
use native.Mathlib.Omega.{arith}
use borrow.Author.Rules.{rules}
use lib.ListN.{length, get_or, set}
use Rattle.diagrams.specs.States.{state_of}
use Rattle.state_sets.proofs.Room.{last_fits, row_low}
use Rattle.state_sets.proofs.Follow.{starts_is}
use Rattle.state_sets.proofs.starts_in.Statement.{statement}
use Rattle.state_sets.proofs.starts_in.Tie as tie

row-at-requires : tie.Need-row_at-at-requires
row-at-requires c κs = (c.requires.0.vars, c.requires.0.rows)

mul-both : tie.Need-offset_bounds-table-t
mul-both c = omega (arith, c.requires.1)

shared-slice-read-both : tie.Need-bounds-table-t
shared-slice-read-both c = omega (arith, c.requires.1, c.requires.0.room)

mul-both-2 : tie.Need-offset_bounds-table-at
mul-both-2 c = let a = c.args in omega (arith, c.row_at-at.ensures, row_low a.s (length a.table.now) a.s.rows c.requires.0 (omega arith))

shared-slice-read-both-2 : tie.Need-bounds-table-at
shared-slice-read-both-2 c = let a = c.args in omega (arith, c.row_at-at.ensures, last_fits a.s (length a.table.now) c.requires.0)

same_length : tie.Need-shape_of-w
same_length c = c.both.auto.w

returns : tie.Need-returns
returns c =
    let a = c.args in
    starts_is a.s.vars a.s.rows a.t c.row_at-at.result a.table.now (state_of a.w.now) _ c.row_at-at.ensures
    c.both.ensures

pub starts_in_spec : {M : Type 1} → statement M
starts_in_spec =
    tie.close
    (tie.spec row-at-requires mul-both shared-slice-read-both mul-both-2 shared-slice-read-both-2 (λ c κs. search rules) same_length returns)
