-- `set_walk::next_bits` meets its contract. The invariant: the words before this one have the next values. Assumes nothing.
use mathlib.Core.Path.{◌≡◌, refl, sym, ap, ◌∙◌}
use Prim.Native.Nat.{ℕ, suc, ◌+◌, ◌-◌, ◌*◌, ◌/◌, ◌≤◌, ◌<◌}
use native.Mathlib.Omega.{arith}
use borrow.Author.Rules.{rules}
use lib.ListN.{length, get_or, set}
use lib.ListN.{length-set}
use Rattle.state_sets.specs.Shape.{row_at}
use Rattle.state_sets.proofs.Room.{row_fits, row_low}
use Rattle.set_walk.proofs.Evaluation.{NextTo, next_more, next-end}
use Rattle.set_walk.proofs.next_bits.Statement.{statement}
use Rattle.set_walk.proofs.next_bits.Tie as tie

abbrev invariant-loop : tie.invariant-loop-v
invariant-loop w table r bits after₀ from vars v₀ after v = (length after ≡ length after₀) × (v ≤ vars) × NextTo w table vars r bits from after v

abbrev decreases-loop : tie.decreases-loop-v
decreases-loop w table r bits after₀ from vars v₀ after v = vars - v

row-at-requires : tie.Need-row_at-from-requires invariant-loop decreases-loop
row-at-requires c κs = (c.requires.1.0.vars, omega (arith, c.requires.1.0.rows, c.requires.1.1))

loop-holds : tie.Need-loop-v-init invariant-loop decreases-loop
loop-holds c = (refl, omega arith, λ i l. absurd (omega arith))

add-value-of : tie.Need-overflow_add-from invariant-loop decreases-loop
add-value-of c = let a = c.args in omega (arith, c.row_at-from.ensures, row_low a.s (length a.table.now) a.r c.requires.1.0 (omega (arith, c.requires.1.1)), c.requires.1.0.vars)

mul-value-of : tie.Need-offset_bounds-table-from invariant-loop decreases-loop
mul-value-of c = let a = c.args in omega (arith, c.row_at-from.ensures, row_low a.s (length a.table.now) a.r c.requires.1.0 (omega (arith, c.requires.1.1)), c.requires.1.0.vars)

shared-slice-read-value-of : tie.Need-bounds-table-from invariant-loop decreases-loop
shared-slice-read-value-of c = let a = c.args in omega (arith, c.row_at-from.ensures, row_fits a.s (length a.table.now) a.r c.requires.1.0 c.requires.1.1.0)

value-of-requires : tie.Need-value_of-requires invariant-loop decreases-loop
value-of-requires c κs = (c.requires.0.built, c.requires.0.edges (c.row_at-from.result + c.loop-v.v))

mul-after : tie.Need-offset_bounds-after-v invariant-loop decreases-loop
mul-after c = omega (arith, c.requires.1.0.vars)

slice-write-after : tie.Need-bounds-after-v invariant-loop decreases-loop
slice-write-after c = omega (arith, c.loop-v.invariant.0, c.requires.1.1)

add-v : tie.Need-overflow_add-v invariant-loop decreases-loop
add-v c = omega (arith, c.requires.1.0.vars)

loop-less : tie.Need-loop-v-smaller invariant-loop decreases-loop
loop-less c = omega arith

loop-again : tie.Need-loop-v-preserved invariant-loop decreases-loop
loop-again c =
    let a = c.args in (
      length-set c.loop-v.after c.loop-v.v c.word.result ∙ c.loop-v.invariant.0,
      omega arith,
      next_more a.w.now a.table.now a.s.vars a.r a.bits.now c.row_at-from.result c.loop-v.v c.word.result c.loop-v.after
          (omega (arith, c.loop-v.invariant.0, c.requires.1.1)) c.loop-v.invariant.2 (c.word.ensures ∙ c.value_of.ensures),
    )

same_length : tie.Need-shape_of-after invariant-loop decreases-loop
same_length c = c.loop-v.invariant.0

returns : tie.Need-returns invariant-loop decreases-loop
returns c =
    let a = c.args in
    let e : c.loop-v.v ≡ a.s.vars = omega (arith, c.loop-v.invariant.1) in
    next-end a.w.now a.table.now a.s.vars a.r a.bits.now c.row_at-from.result c.loop-v.after c.row_at-from.ensures
    (c.loop-v.invariant.0 ∙ c.requires.1.1.1) (rw e at c.loop-v.invariant.2)

pub next_bits_spec : {M : Type 1} → statement M
next_bits_spec =
    tie.close
    (tie.spec invariant-loop decreases-loop row-at-requires loop-holds add-value-of mul-value-of shared-slice-read-value-of value-of-requires (λ c κs. search rules) mul-after slice-write-after add-v loop-less loop-again same_length returns)
