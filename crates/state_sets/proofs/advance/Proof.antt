-- `state_sets::advance` meets its contract. The invariant: what is left of the steps ends as all of them do. Assumes nothing.
use mathlib.Core.Path.{◌≡◌, refl, sym, ap, ◌∙◌}
use Prim.Native.Nat.{ℕ, suc, ◌+◌, ◌-◌, ◌*◌, ◌≤◌, ◌<◌}
use native.Mathlib.Omega.{arith}
use borrow.Author.Rules.{rules}
use lib.ListN.{length, get_or, set}
use Rattle.diagrams.specs.States.{state_of}
use Rattle.state_sets.specs.Shape.{Fits}
use Rattle.state_sets.specs.Sets.{sets_of, left, step_of, turns, advanced}
use Rattle.state_sets.proofs.Follow.{turns-none, turns-stop, turns_more, turns-all}
use Rattle.state_sets.proofs.advance.Statement.{statement}
use Rattle.state_sets.proofs.advance.Tie as tie

abbrev invariant-loop : tie.invariant-loop-r
invariant-loop w₀ table₀ s next rows r₀ w table r =
    (length w ≡ length w₀) × (length table ≡ length table₀) × (r ≤ s.rows + 1) × (rows ≡ s.rows)
    × (turns (step_of s.vars s.rows next) (s.rows + 1 - r) r (sets_of w table) ≡ advanced s.vars s.rows next (sets_of w₀ table₀))

abbrev decreases-loop : tie.decreases-loop-r
decreases-loop w₀ table₀ s next rows r₀ w table r = s.rows + 1 - r

loop-holds : tie.Need-loop-r-init invariant-loop decreases-loop
loop-holds c =
    let a = c.args in
    (refl, refl, omega arith, refl, turns-all a.s.vars a.s.rows a.next (sets_of a.w.now a.table.now) (a.s.rows + 1 - 0) (omega arith))

step-again-requires : tie.Need-step_again-requires invariant-loop decreases-loop
step-again-requires c κs =
    (rw c.loop-r.invariant.1 c.requires.0, c.requires.1)

same_length : tie.Need-shape_of-w-then-not-step_again invariant-loop decreases-loop
same_length c = c.step_again.auto.w ∙ c.loop-r.invariant.0

same-length-2 : tie.Need-shape_of-table-then-not-step_again invariant-loop decreases-loop
same-length-2 c = c.step_again.auto.table ∙ c.loop-r.invariant.1

returns : tie.Need-returns-then-not-step_again invariant-loop decreases-loop
returns c =
    let a = c.args in
    turns-stop (step_of a.s.vars a.s.rows a.next) (a.s.rows + 1 - c.loop-r.r) (a.s.rows - c.loop-r.r) c.loop-r.r (sets_of c.loop-r.w c.loop-r.table) (sets_of c.step_again.new.w c.step_again.new.table)
    (omega (arith, c.loop-r-test, c.loop-r.invariant.3)) (ap (left c.step_again.new.w c.step_again.new.table) (sym c.if-not-step_again.true) ∙ c.step_again.ensures)
    ∙ c.loop-r.invariant.4

add_r : tie.Need-overflow_add-r invariant-loop decreases-loop
add_r c = omega (arith, c.requires.0.rows, c.loop-r.invariant.3)

loop-less : tie.Need-loop-r-smaller invariant-loop decreases-loop
loop-less c = omega (arith, c.loop-r.invariant.3)

loop-again : tie.Need-loop-r-preserved invariant-loop decreases-loop
loop-again c =
    let a = c.args in (
      c.step_again.auto.w ∙ c.loop-r.invariant.0,
      c.step_again.auto.table ∙ c.loop-r.invariant.1,
      omega (arith, c.loop-r.invariant.3),
      c.loop-r.invariant.3,
      turns_more (step_of a.s.vars a.s.rows a.next) (a.s.rows + 1 - c.loop-r.r) (a.s.rows + 1 - (c.loop-r.r + 1)) c.loop-r.r (c.loop-r.r + 1) (sets_of c.loop-r.w c.loop-r.table)
          (sets_of c.step_again.new.w c.step_again.new.table) (omega (arith, c.loop-r.invariant.3)) (omega arith)
          (ap (left c.step_again.new.w c.step_again.new.table) (sym c.if-not-step_again.false) ∙ c.step_again.ensures)
          ∙ c.loop-r.invariant.4,
    )

same-length-3 : tie.Need-shape_of-w invariant-loop decreases-loop
same-length-3 c = c.loop-r.invariant.0

same-length-4 : tie.Need-shape_of-table invariant-loop decreases-loop
same-length-4 c = c.loop-r.invariant.1

returns-2 : tie.Need-returns invariant-loop decreases-loop
returns-2 c =
    let a = c.args in
    sym (turns-none (step_of a.s.vars a.s.rows a.next) (a.s.rows + 1 - c.loop-r.r) c.loop-r.r (sets_of c.loop-r.w c.loop-r.table) (omega (arith, c.loop-r.invariant.3))) ∙ c.loop-r.invariant.4

pub advance_spec : {M : Type 1} → statement M
advance_spec =
    tie.close
    (tie.spec invariant-loop decreases-loop loop-holds step-again-requires same_length same-length-2 returns add_r loop-less loop-again same-length-3 same-length-4 returns-2)
