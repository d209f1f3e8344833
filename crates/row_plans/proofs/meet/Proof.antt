-- `row_plans::meet` meets its contract. Assumes nothing.
use mathlib.Core.Path.{◌≡◌, ap, ap₂, ◌∙◌}
use mathlib.Core.List.{List}
use Prim.Native.Nat.{ℕ, ◌+◌, ◌-◌}
use native.Mathlib.Omega.{arith}
use borrow.Author.Rules.{rules}
use lib.ListN.{get_or, set}
use Rattle.literals.specs.declared.Var.{Var}
use Rattle.row_plans.specs.Plans.{meeting_of}
use Rattle.row_plans.proofs.Steps.{met-full, met-not, met-now}
use Rattle.row_plans.proofs.meet.Statement.{statement}
use Rattle.row_plans.proofs.meet.Tie as tie

sub-put : tie.Need-overflow_sub-x
sub-put c = omega (arith, c.if-x-gt1.true)

add-result : tie.Need-overflow_add-result
add-result c = omega (arith, c.if-n-list.true)

same_length : tie.Need-shape_of-marks-then-x-gt1
same_length c = c.put.auto.work

same-length-2 : tie.Need-shape_of-list-then-x-gt1
same-length-2 c = c.put-then-x-gt1.auto.work

returns : tie.Need-returns-then-x-gt1
returns c =
    let a = c.args in
    let v = ap (λ (y : Var). y.0) c.var-v.ensures in
    let e : c.put.new.work ≡ set a.marks.now a.l.0.0 1 = c.put.ensures ∙ ap (λ (u : ℕ). set {A = ℕ} a.marks.now u 1) v in
    let f : c.put-then-x-gt1.new.work ≡ set a.list.now a.n (get_or a.marks.now a.l.0.0 0 - 2) =
    c.put-then-x-gt1.ensures ∙ ap (λ (u : ℕ). set {A = ℕ} a.list.now a.n (u - 2)) c.mark_of-x.ensures in
    ap₂ (λ (y z : List ℕ). meeting_of y z (a.n + 1)) e f
    ∙ met-now a.l.0.0 (meeting_of a.marks.now a.list.now a.n) c.if-n-list.true (omega (arith, c.if-x-gt1.true, c.mark_of-x.ensures))

returns-2 : tie.Need-returns-else-x-gt1
returns-2 c =
    let a = c.args in
    met-not a.l.0.0 (meeting_of a.marks.now a.list.now a.n) c.if-n-list.true (omega (arith, c.if-x-gt1.false, c.mark_of-x.ensures))

returns-3 : tie.Need-returns-else-n-list
returns-3 c =
    let a = c.args in
    met-full a.l.0.0 (meeting_of a.marks.now a.list.now a.n) c.if-n-list.false

pub meet_spec : {M : Type 1} → statement M
meet_spec =
    tie.close
    (tie.spec (λ c κs. search rules) (λ c κs. search rules) (λ c. search rules) (λ c κs. search rules) sub-put (λ c κs. search rules) add-result same_length same-length-2 returns (λ c. search rules) returns-2 (λ c. search rules) returns-3)
