-- `state_sets::step_again` meets its contract. Assumes nothing.
use mathlib.Core.Path.{◌≡◌, refl, sym, ap, ◌∙◌}
use Prim.Native.Nat.{ℕ, suc, ◌+◌, ◌-◌, ◌*◌, ◌≤◌, ◌<◌}
use native.Mathlib.Omega.{arith}
use borrow.Author.Rules.{rules}
use lib.ListN.{length, get_or, set}
use mathlib.Core.Bool.{Bool}
use Rattle.diagrams.specs.States.{state_of}
use Rattle.collection.specs.Collecting as C
use Rattle.state_sets.specs.Shape.{Fits}
use Rattle.state_sets.specs.Sets.{sets_of, tried, left, step_of}
use Rattle.state_sets.proofs.Follow.{again-done, again-out, again-more}
use Rattle.state_sets.proofs.step_again.Statement.{statement}
use Rattle.state_sets.proofs.step_again.Tie as tie

step-requires : tie.Need-step-requires
step-requires c κs = c.requires

same_length : tie.Need-shape_of-w-then-step
same_length c = c.step.auto.w

same-length-2 : tie.Need-shape_of-table-then-step
same-length-2 c = c.step.auto.table

returns : tie.Need-returns-then-step
returns c =
    let a = c.args in
    again-done (step_of a.s.vars a.s.rows a.next a.r) (sets_of a.w.now a.table.now) (sets_of c.step.new.w c.step.new.table)
    (ap (left c.step.new.w c.step.new.table) (sym c.if-step.true) ∙ c.step.ensures)

step-requires-2 : tie.Need-step-requires-in-Ok
step-requires-2 c κs =
    let e : length c.collect.new.roots ≡ length c.args.table.now = c.collect.auto.roots ∙ c.step.auto.table in
    (rw e c.requires.0, c.requires.1)

same-length-3 : tie.Need-shape_of-w-in-Err
same-length-3 c = c.collect.auto.w ∙ c.step.auto.w

same-length-4 : tie.Need-shape_of-table-in-Err
same-length-4 c = c.collect.auto.roots ∙ c.step.auto.table

returns-2 : tie.Need-returns-in-Err
returns-2 c =
    let a = c.args in
    again-out (step_of a.s.vars a.s.rows a.next a.r) (sets_of a.w.now a.table.now) (sets_of c.step.new.w c.step.new.table)
    (state_of c.collect.new.w) c.collect.new.roots (ap (left c.step.new.w c.step.new.table) (sym c.if-step.false) ∙ c.step.ensures)
    (ap (λ (r : C.Collected). C.collection (state_of c.collect.new.w) c.collect.new.roots (C.is_kept r)) (sym c.in-Err.is) ∙ c.collect.ensures)

same-length-5 : tie.Need-shape_of-w-in-Ok
same-length-5 c = c.step-in-Ok.auto.w ∙ c.collect.auto.w ∙ c.step.auto.w

same-length-6 : tie.Need-shape_of-table-in-Ok
same-length-6 c = c.step-in-Ok.auto.table ∙ c.collect.auto.roots ∙ c.step.auto.table

returns-3 : tie.Need-returns-in-Ok
returns-3 c =
    let a = c.args in
    again-more (step_of a.s.vars a.s.rows a.next a.r) (sets_of a.w.now a.table.now) (sets_of c.step.new.w c.step.new.table)
    (state_of c.collect.new.w) c.collect.new.roots _ (ap (left c.step.new.w c.step.new.table) (sym c.if-step.false) ∙ c.step.ensures)
    (ap (λ (r : C.Collected). C.collection (state_of c.collect.new.w) c.collect.new.roots (C.is_kept r)) (sym c.in-Ok.is) ∙ c.collect.ensures) c.step-in-Ok.ensures

pub step_again_spec : {M : Type 1} → statement M
step_again_spec =
    tie.close
    (tie.spec step-requires same_length same-length-2 returns (λ c κs. search rules) (λ c. search rules) (λ c. search rules) step-requires-2 same-length-3 same-length-4 returns-2 same-length-5 same-length-6 returns-3)
