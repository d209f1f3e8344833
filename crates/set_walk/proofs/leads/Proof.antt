-- `set_walk::leads` meets its contract. Assumes nothing.
use mathlib.Core.Path.{◌≡◌, refl, sym, ap, ◌∙◌}
use Prim.Native.Nat.{ℕ, suc, ◌+◌, ◌-◌, ◌*◌, ◌/◌, ◌≤◌, ◌<◌}
use native.Mathlib.Omega.{arith}
use borrow.Author.Rules.{rules}
use lib.ListN.{length, get_or, set}
use Rattle.state_sets.specs.Shape.{row_at}
use Rattle.state_sets.proofs.Room.{row_fits, row_low}
use Rattle.set_walk.proofs.Evaluation.{leads-hit, leads-no, leads-on}
use Rattle.set_walk.proofs.leads.Statement.{statement}
use Rattle.set_walk.proofs.leads.Tie as tie

row-at-requires : tie.Need-row_at-requires
row-at-requires c κs = (c.requires.1.0.vars, omega (arith, c.requires.1.0.rows, c.requires.1.1))

add-to : tie.Need-overflow_add-to
add-to c = let a = c.args in omega (arith, c.row_at.ensures, row_low a.s (length a.table.now) a.r c.requires.1.0 (omega (arith, c.requires.1.1)), c.requires.1.0.vars)

add-value-of : tie.Need-overflow_add-to-then-next-eq0
add-value-of c = let a = c.args in omega (arith, c.row_at.ensures, row_low a.s (length a.table.now) a.r c.requires.1.0 (omega (arith, c.requires.1.1)), c.requires.1.0.vars)

mul-value-of : tie.Need-offset_bounds-table-to
mul-value-of c = let a = c.args in omega (arith, c.row_at.ensures, row_low a.s (length a.table.now) a.r c.requires.1.0 (omega (arith, c.requires.1.1)), c.requires.1.0.vars)

shared-slice-read-value-of : tie.Need-bounds-table-to
shared-slice-read-value-of c = let a = c.args in omega (arith, c.row_at.ensures, row_fits a.s (length a.table.now) a.r c.requires.1.0 c.requires.1.1.0)

value-of-requires : tie.Need-value_of-requires
value-of-requires c κs = (c.requires.0.built, c.requires.0.edges (c.row_at.result + c.args.s.vars + 1))

returns : tie.Need-returns-then-next-eq0
returns c =
    let a = c.args in
    leads-hit a.w.now a.table.now a.s.vars a.next a.r a.bits.now a.after.now (c.row_at.result + a.s.vars + 1) _
    c.if-next-eq0.true (ap (λ (k : ℕ). k + a.s.vars + 1) c.row_at.ensures) c.value_of.ensures

mul-value-of-2 : tie.Need-offset_bounds-table-to-2
mul-value-of-2 c = let a = c.args in omega (arith, c.row_at.ensures, row_low a.s (length a.table.now) a.r c.requires.1.0 (omega (arith, c.requires.1.1)), c.requires.1.0.vars)

shared-slice-read-value-of-2 : tie.Need-bounds-table-to-2
shared-slice-read-value-of-2 c = let a = c.args in omega (arith, c.row_at.ensures, row_fits a.s (length a.table.now) a.r c.requires.1.0 c.requires.1.1.0)

value-of-requires-2 : tie.Need-value_of-requires-2
value-of-requires-2 c κs = (c.requires.0.built, c.requires.0.edges (c.row_at.result + c.args.s.vars))

next-bits-requires : tie.Need-next_bits-requires
next-bits-requires c κs = (c.requires.0, (c.requires.1.0, (c.requires.1.1.0, c.requires.1.1.1)))

sub-value-of : tie.Need-overflow_sub-next
sub-value-of c = omega (arith, c.if-next-eq0.false)

mul-value-of-3 : tie.Need-offset_bounds-table-next
mul-value-of-3 c = omega (arith, c.requires.1.1, c.if-next-eq0.false)

shared-slice-read-value-of-3 : tie.Need-bounds-table-next
shared-slice-read-value-of-3 c = omega (arith, c.requires.1.1, c.requires.1.0.room, c.if-next-eq0.false)

value-of-requires-3 : tie.Need-value_of-requires-then-value_of
value-of-requires-3 c κs = (c.requires.0.built, c.requires.0.edges (c.args.next - 1))

same_length : tie.Need-shape_of-after-then-value_of
same_length c = c.next_bits.auto.after

returns-2 : tie.Need-returns-then-value_of
returns-2 c =
    let a = c.args in
    leads-on a.w.now a.table.now a.s.vars a.next a.r a.bits.now c.next_bits.new.after (a.next - 1)
    (c.row_at.result + a.s.vars) _ (omega (arith, c.if-next-eq0.false)) (ap (λ (k : ℕ). k + a.s.vars) c.row_at.ensures)
    (sym c.value_of-2.ensures ∙ c.if-value_of.true) c.next_bits.ensures c.value_of-then-value_of.ensures

returns-3 : tie.Need-returns
returns-3 c =
    let a = c.args in
    leads-no a.w.now a.table.now a.s.vars a.next a.r a.bits.now a.after.now (a.next - 1)
    (c.row_at.result + a.s.vars) (omega (arith, c.if-next-eq0.false)) (ap (λ (k : ℕ). k + a.s.vars) c.row_at.ensures)
    (sym c.value_of-2.ensures ∙ c.if-value_of.false)

pub leads_spec : {M : Type 1} → statement M
leads_spec =
    tie.close
    (tie.spec row-at-requires add-to add-value-of mul-value-of shared-slice-read-value-of value-of-requires returns mul-value-of-2 shared-slice-read-value-of-2 value-of-requires-2 next-bits-requires sub-value-of mul-value-of-3 shared-slice-read-value-of-3 value-of-requires-3 same_length returns-2 returns-3)
