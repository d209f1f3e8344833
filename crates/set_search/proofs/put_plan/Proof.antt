-- `set_search::put_plan` meets its contract. Assumes nothing.
use mathlib.Core.Path.{◌≡◌, sym, ap, ◌∙◌}
use Prim.Native.Nat.{ℕ, ◌≤◌, ◌<◌}
use native.Mathlib.Omega.{arith}
use borrow.Author.Rules.{rules}
use lib.ListN.{length}
use lib.Seq.{length-take-le}
use Rattle.layout.specs.Words.{circuit_in}
use Rattle.frames.proofs.Places.{latches-few}
use Rattle.set_search.proofs.Plans.{many-kept, few-kept}
use Rattle.set_search.proofs.put_plan.Statement.{statement}
use Rattle.set_search.proofs.put_plan.Tie as tie

kept-latches-requires : tie.Need-kept_latches-count-requires
kept-latches-requires c κs = (c.requires.0, (c.requires.1, omega arith))

returns : tie.Need-returns-then-count-gt112
returns c =
    let a = c.args in
    many-kept (circuit_in a.m.now) a.b a.which a.plan.now a.plan.now
    (omega (arith, c.if-count-gt112.true, ap length c.kept_latches-count.ensures.1, length-take-le c.kept_latches-count.result c.kept_latches-count.new.kept (omega (arith, c.kept_latches-count.auto.kept, c.kept_latches-count.ensures.0, latches-few c.requires.0.held c.requires.0.layout_of))))

array-share-prefix-kept : tie.Need-slice_bounds-kept-end
array-share-prefix-kept c =
    omega (arith, c.kept_latches-count.ensures.0, latches-few c.requires.0.held c.requires.0.layout_of)

slice-aggregate-make-plan : tie.Need-slice_bounds-make_plan-end
slice-aggregate-make-plan c =
    sym
    (length-take-le c.kept_latches-count.result c.kept_latches-count.new.kept
    (omega (arith, c.kept_latches-count.auto.kept, c.kept_latches-count.ensures.0, latches-few c.requires.0.held c.requires.0.layout_of)))

make-plan-requires : tie.Need-make_plan-requires
make-plan-requires c κs = (
  c.requires.0,
  (
    c.requires.1,
    omega (
      arith,
      c.if-count-gt112.false,
      length-take-le c.kept_latches-count.result c.kept_latches-count.new.kept
          (omega (arith, c.kept_latches-count.auto.kept, c.kept_latches-count.ensures.0, latches-few c.requires.0.held c.requires.0.layout_of)),
    ),
  ),
)

returns-2 : tie.Need-returns
returns-2 c =
    let a = c.args in
    few-kept (circuit_in a.m.now) a.b a.which a.plan.now c.make_plan.new.plan _ c.make_plan.result c.kept_latches-count.ensures.1
    (omega (
      arith,
      c.if-count-gt112.false,
      length-take-le c.kept_latches-count.result c.kept_latches-count.new.kept
          (omega (arith, c.kept_latches-count.auto.kept, c.kept_latches-count.ensures.0, latches-few c.requires.0.held c.requires.0.layout_of)),
    )) c.make_plan.ensures

pub put_plan_spec : {M : Type 1} → statement M
put_plan_spec =
    tie.close
    (tie.spec (λ c. search rules) kept-latches-requires returns array-share-prefix-kept slice-aggregate-make-plan make-plan-requires (λ c. search rules) returns-2)
