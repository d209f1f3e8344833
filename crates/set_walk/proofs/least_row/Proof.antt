-- `set_walk::least_row` meets its contract. The invariant: no row before this one leads on. Assumes nothing.
use mathlib.Core.Path.{◌≡◌, refl, sym, ap, ◌∙◌}
use Prim.Native.Nat.{ℕ, suc, ◌+◌, ◌-◌, ◌*◌, ◌/◌, ◌≤◌, ◌<◌}
use native.Mathlib.Omega.{arith}
use borrow.Author.Rules.{rules}
use lib.ListN.{length, get_or, set}
use Rattle.set_walk.proofs.Evaluation.{NoneTo, none_more, least-here, least-none}
use Rattle.set_walk.proofs.least_row.Statement.{statement}
use Rattle.set_walk.proofs.least_row.Tie as tie

abbrev invariant-loop : tie.invariant-loop-r
invariant-loop w table s next bits after₀ rows r₀ after r =
    (length after ≡ length after₀) × (r ≤ rows) × (rows ≡ s.rows) × NoneTo w table s.vars s.rows next bits r

abbrev decreases-loop : tie.decreases-loop-r
decreases-loop w table s next bits after₀ rows r₀ after r = rows - r

loop-holds : tie.Need-loop-r-init invariant-loop decreases-loop
loop-holds c = (refl, omega arith, refl, λ k l. absurd (omega arith))

leads-requires : tie.Need-leads-requires invariant-loop decreases-loop
leads-requires c κs = (c.requires.0, (c.requires.1.0, (omega (arith, c.loop-r.invariant.2), c.loop-r.invariant.0 ∙ c.requires.1.1.0, c.requires.1.1.1)))

same_length : tie.Need-shape_of-after-then-leads invariant-loop decreases-loop
same_length c = c.leads.auto.after ∙ c.loop-r.invariant.0

returns : tie.Need-returns-then-leads invariant-loop decreases-loop
returns c =
    let a = c.args in
    least-here a.w.now a.table.now a.s.vars a.s.rows a.next a.bits.now c.loop-r.r c.leads.new.after c.leads.result (omega (arith, c.loop-r.invariant.2))
    c.loop-r.invariant.3 c.leads.ensures c.if-leads.true

add_r : tie.Need-overflow_add-r invariant-loop decreases-loop
add_r c = omega (arith, c.requires.1.0.rows, c.loop-r.invariant.2)

loop-less : tie.Need-loop-r-smaller invariant-loop decreases-loop
loop-less c = omega arith

loop-again : tie.Need-loop-r-preserved invariant-loop decreases-loop
loop-again c =
    let a = c.args in (
      c.leads.auto.after ∙ c.loop-r.invariant.0,
      omega arith,
      c.loop-r.invariant.2,
      none_more a.w.now a.table.now a.s.vars a.s.rows a.next a.bits.now c.loop-r.r c.leads.new.after c.leads.result c.loop-r.invariant.3 c.leads.ensures
          c.if-leads.false,
    )

same-length-2 : tie.Need-shape_of-after invariant-loop decreases-loop
same-length-2 c = c.loop-r.invariant.0

returns-2 : tie.Need-returns invariant-loop decreases-loop
returns-2 c =
    let a = c.args in
    least-none a.w.now a.table.now a.s.vars a.s.rows a.next a.bits.now c.loop-r.r c.loop-r.after (omega (arith, c.loop-r.invariant.1, c.loop-r.invariant.2)) c.loop-r.invariant.3

pub least_row_spec : {M : Type 1} → statement M
least_row_spec =
    tie.close
    (tie.spec invariant-loop decreases-loop loop-holds leads-requires same_length returns add_r loop-less loop-again same-length-2 returns-2)
