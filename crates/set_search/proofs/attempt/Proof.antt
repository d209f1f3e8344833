-- `set_search::attempt` meets its contract. Assumes nothing.
use Rattle.std.proofs.lemmas.Bool.{not_from_true}
use Rattle.std.proofs.lemmas.Bool.{not_from_false}
use mathlib.Core.Path.{◌≡◌, refl, sym, ap, ◌∙◌, subst}
use mathlib.Core.List.{List}
use Prim.Native.Nat.{ℕ, ◌+◌, ◌≤◌}
use native.Mathlib.Omega.{arith}
use borrow.Author.Rules.{rules}
use lib.ListN.{length, replicate, length-replicate}
use lib.Seq.{length-take-le}
use Rattle.layout.specs.Words.{word, circuit_in}
use Rattle.stages.specs.Endings.{Ending}
use Rattle.state_sets.proofs.Follow.{refused, granted}
use Rattle.set_attempt.specs.Attempt.{is_distinct}
use Rattle.set_search.specs.Search.{Reaches}
use Rattle.set_search.proofs.Plans.{proper, latches-part, wide-so, whole, vars-most, twice-so, plan-so, fits-so}
use Rattle.set_search.proofs.attempt.Statement.{statement}
use Rattle.set_search.proofs.attempt.Tie as tie

put-plan-requires : tie.Need-put_plan-requires
put-plan-requires c κs = (c.requires.0, c.requires.1.0.bad)

returns : tie.Need-returns-then-not-put_plan
returns c =
    let a = c.args in
    wide-so (circuit_in a.m.now) a.stage.b (proper c.requires.0) a.stage.share a.stage.first (a.stage.k + 1) a.which
    c.put_plan.new.plan c.put_plan.result c.put_plan.ensures (refused c.put_plan.result (not_from_false _ c.if-not-put_plan.true))

cast-vars : tie.Need-overflow_cast-vars
cast-vars c =
    let a = c.args in
    omega (
      arith,
      whole (circuit_in a.m.now) a.stage.b (proper c.requires.0) a.stage.share a.stage.first (a.stage.k + 1) a.which
          c.put_plan.new.plan c.put_plan.result c.put_plan.ensures c.requires.1.1 (granted c.put_plan.result (not_from_true _ c.if-not-put_plan.false)),
      c.put_plan.auto.plan,
    )

add-end : tie.Need-overflow_add-end
add-end c =
    let a = c.args in
    omega (
      arith,
      whole (circuit_in a.m.now) a.stage.b (proper c.requires.0) a.stage.share a.stage.first (a.stage.k + 1) a.which
          c.put_plan.new.plan c.put_plan.result c.put_plan.ensures c.requires.1.1 (granted c.put_plan.result (not_from_true _ c.if-not-put_plan.false)),
      c.put_plan.auto.plan,
    )

part-are-distinct-end : tie.Need-slice_bounds-are_distinct-end
part-are-distinct-end c =
    let a = c.args in
    omega (
      arith,
      whole (circuit_in a.m.now) a.stage.b (proper c.requires.0) a.stage.share a.stage.first (a.stage.k + 1) a.which
          c.put_plan.new.plan c.put_plan.result c.put_plan.ensures c.requires.1.1 (granted c.put_plan.result (not_from_true _ c.if-not-put_plan.false)),
      c.put_plan.auto.plan,
    )

returns-2 : tie.Need-returns-then-not-are_distinct
returns-2 c =
    let a = c.args in
    twice-so (circuit_in a.m.now) a.stage.b (proper c.requires.0) a.stage.share a.stage.first (a.stage.k + 1) a.which
    c.put_plan.new.plan c.put_plan.result c.put_plan.ensures c.requires.1.1 (granted c.put_plan.result (not_from_true _ c.if-not-put_plan.false)) (ap is_distinct (sym (latches-part c.put_plan.new.plan (word c.put_plan.new.plan 0) refl)) ∙ sym c.are_distinct.ensures ∙ refused c.are_distinct.result (not_from_false _ c.if-not-are_distinct.true))

array-borrow-prefix-base : tie.Need-slice_bounds-base-end
array-borrow-prefix-base c =
    let a = c.args in
    let d = ap is_distinct (sym (latches-part c.put_plan.new.plan (word c.put_plan.new.plan 0) refl)) ∙ sym c.are_distinct.ensures ∙ granted c.are_distinct.result (not_from_true _ c.if-not-are_distinct.false) in
    omega (
      arith,
      vars-most (circuit_in a.m.now) a.stage.b (proper c.requires.0) a.stage.share a.stage.first (a.stage.k + 1) a.which
          c.put_plan.new.plan c.put_plan.result c.put_plan.ensures c.requires.1.1 (granted c.put_plan.result (not_from_true _ c.if-not-put_plan.false)) d,
    )

slice-aggregate-try-plan-2 : tie.Need-slice_bounds-try_plan-end-2
slice-aggregate-try-plan-2 c =
    let a = c.args in
    let d = ap is_distinct (sym (latches-part c.put_plan.new.plan (word c.put_plan.new.plan 0) refl)) ∙ sym c.are_distinct.ensures ∙ granted c.are_distinct.result (not_from_true _ c.if-not-are_distinct.false) in
    sym (length-take-le {A = ℕ} (word c.put_plan.new.plan 0) (replicate 112 0) (omega (
      arith,
      vars-most (circuit_in a.m.now) a.stage.b (proper c.requires.0) a.stage.share a.stage.first (a.stage.k + 1) a.which
          c.put_plan.new.plan c.put_plan.result c.put_plan.ensures c.requires.1.1 (granted c.put_plan.result (not_from_true _ c.if-not-put_plan.false)) d,
      length-replicate {A = ℕ} 112 0,
    )))

array-borrow-prefix-bits : tie.Need-slice_bounds-bits-end
array-borrow-prefix-bits c =
    let a = c.args in
    let d = ap is_distinct (sym (latches-part c.put_plan.new.plan (word c.put_plan.new.plan 0) refl)) ∙ sym c.are_distinct.ensures ∙ granted c.are_distinct.result (not_from_true _ c.if-not-are_distinct.false) in
    omega (
      arith,
      vars-most (circuit_in a.m.now) a.stage.b (proper c.requires.0) a.stage.share a.stage.first (a.stage.k + 1) a.which
          c.put_plan.new.plan c.put_plan.result c.put_plan.ensures c.requires.1.1 (granted c.put_plan.result (not_from_true _ c.if-not-put_plan.false)) d,
    )

slice-aggregate-try-plan-3 : tie.Need-slice_bounds-try_plan-end-3
slice-aggregate-try-plan-3 c =
    let a = c.args in
    let d = ap is_distinct (sym (latches-part c.put_plan.new.plan (word c.put_plan.new.plan 0) refl)) ∙ sym c.are_distinct.ensures ∙ granted c.are_distinct.result (not_from_true _ c.if-not-are_distinct.false) in
    sym (length-take-le {A = ℕ} (word c.put_plan.new.plan 0) (replicate 112 0) (omega (
      arith,
      vars-most (circuit_in a.m.now) a.stage.b (proper c.requires.0) a.stage.share a.stage.first (a.stage.k + 1) a.which
          c.put_plan.new.plan c.put_plan.result c.put_plan.ensures c.requires.1.1 (granted c.put_plan.result (not_from_true _ c.if-not-put_plan.false)) d,
      length-replicate {A = ℕ} 112 0,
    )))

try-plan-requires : tie.Need-try_plan-requires
try-plan-requires c κs =
    let a = c.args in
    let d = ap is_distinct (sym (latches-part c.put_plan.new.plan (word c.put_plan.new.plan 0) refl)) ∙ sym c.are_distinct.ensures ∙ granted c.are_distinct.result (not_from_true _ c.if-not-are_distinct.false) in
    let room = length-take-le {A = ℕ} (word c.put_plan.new.plan 0) (replicate 112 0) (omega (
      arith,
      vars-most (circuit_in a.m.now) a.stage.b (proper c.requires.0) a.stage.share a.stage.first (a.stage.k + 1) a.which
          c.put_plan.new.plan c.put_plan.result c.put_plan.ensures c.requires.1.1 (granted c.put_plan.result (not_from_true _ c.if-not-put_plan.false)) d,
      length-replicate {A = ℕ} 112 0,
    )) in (
      (a.order.now, c.requires.0),
      (
        c.requires.1.0,
        record {
          fit = fits-so (circuit_in a.m.now) a.stage.b (proper c.requires.0) a.stage.share a.stage.first (a.stage.k + 1) a.which
              c.put_plan.new.plan c.put_plan.result c.put_plan.ensures c.requires.1.1 (granted c.put_plan.result (not_from_true _ c.if-not-put_plan.false)) d;
          large = c.requires.1.1;
          base-room = room;
          bits-room = room;
        },
      ),
    )

same_length : tie.Need-shape_of-work
same_length c = c.try_plan.auto.work

returns-3 : tie.Need-returns
returns-3 c =
    let a = c.args in
    let d = ap is_distinct (sym (latches-part c.put_plan.new.plan (word c.put_plan.new.plan 0) refl)) ∙ sym c.are_distinct.ensures ∙ granted c.are_distinct.result (not_from_true _ c.if-not-are_distinct.false) in
    subst (λ (e : Ending). Reaches (circuit_in a.m.now) a.stage.k e c.try_plan.new.work c.try_plan.result)
    (sym (plan-so (circuit_in a.m.now) a.stage.b (proper c.requires.0) a.stage.share a.stage.first (a.stage.k + 1) a.which
    c.put_plan.new.plan c.put_plan.result c.put_plan.ensures c.requires.1.1 (granted c.put_plan.result (not_from_true _ c.if-not-put_plan.false)) d)) c.try_plan.ensures

pub attempt_spec : {M : Type 1} → statement M
attempt_spec =
    tie.close
    (tie.spec (λ c. search rules) put-plan-requires returns (λ c. search rules) cast-vars add-end (λ c. search rules) (λ c. search rules) part-are-distinct-end (λ c κs. search rules) returns-2 (λ c. search rules) array-borrow-prefix-base slice-aggregate-try-plan-2 array-borrow-prefix-bits slice-aggregate-try-plan-3 try-plan-requires same_length returns-3)
