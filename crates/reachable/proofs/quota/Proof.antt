-- `reachable::quota` meets its contract. Assumes nothing.
use mathlib.Core.Path.{◌≡◌, sym, ap, ◌∙◌}
use Prim.Native.Nat.{ℕ, ◌+◌, ◌*◌, ◌/◌, ◌≤◌, max, min}
use native.Mathlib.Omega.{arith}
use lib.ListN.{length}
use Rattle.influence.specs.Part.{part_in}
use Rattle.frames.proofs.Places.{inputs_are}
use Rattle.limits.specs.Limits.{size_of}
use Rattle.limits.proofs.Sizes.{limited}
use Rattle.reachable.specs.Quota.{quota}
use Rattle.reachable.proofs.Quotas.{effort-some, size_few, quota-many, quota-free, quota-from, work-few}
use borrow.Author.Rules.{rules}
use Rattle.reachable.proofs.quota.Statement.{statement}
use Rattle.reachable.proofs.quota.Tie as tie

returns : tie.Need-returns-then-layout-gt16
returns c =
    sym (quota-many (part_in c.args.m.now c.args.kept.now) c.args.stage.first c.args.stage.limit
    c.args.t (omega (
      arith,
      c.if-layout-gt16.true,
      inputs_are c.requires.0 c.requires.1.0,
    )))

returns-2 : tie.Need-returns-then-layout-gt16-2
returns-2 c =
    sym (quota-free (part_in c.args.m.now c.args.kept.now) c.args.stage.first c.args.stage.limit
    c.args.t (omega (
      arith,
      c.if-layout-gt16.false,
      inputs_are c.requires.0 c.requires.1.0,
    ))
    (omega (arith, c.if-layout-gt16-2.true, c.requires.1.0.u-is)))

-- the later frame is one of 255
last-few : (c : tie.After-later-last) → c.later-last.result ≤ 255
last-few c = omega (
  arith,
  c.later-last.ensures,
  c.requires.1.1.0,
  c.requires.1.1.1,
)

size-requires : tie.Need-size-size-requires
size-requires c κs = (
  limited c.requires.0 c.requires.1.0,
  last-few (c),
)

effort-requires : tie.Need-effort-each-requires
effort-requires c κs = (
  c.requires.0,
  (
    c.requires.1.0,
    (
      omega (
        arith,
        c.if-layout-gt16.false,
      ),
      c.requires.1.1.3,
    ),
  ),
)

width-requires : tie.Need-width-requires
width-requires c κs = c.requires.1.1.3

-- the size fits the products
few : (c : tie.After-size-size) → c.size-size.result ≤ 1048576
few c =
    omega (
      arith,
      c.size-size.ensures,
      size_few c.args.kept.now c.requires.0 c.requires.1.0 c.later-last.result (last-few c.before),
    )

add-stride : tie.Need-overflow_add-stride
add-stride c = omega (
  arith,
  c.width.ensures,
  c.requires.1.1.3,
)

mul-lesser : tie.Need-overflow_mul-size
mul-lesser c = omega (arith, few c.before.before)

div-lesser : tie.Need-nonzero_div-size
div-lesser c = omega arith

mul-lesser-2 : tie.Need-overflow_mul-limit
mul-lesser-2 c =
    omega (
      arith,
      work-few c.args.kept.now c.requires.0 c.requires.1.0 c.args.stage.limit c.size-size.result
          c.requires.1.1.2 (few c.before.before.before),
    )

add-lesser : tie.Need-overflow_add-limit
add-lesser c =
    omega (
      arith,
      work-few c.args.kept.now c.requires.0 c.requires.1.0 c.args.stage.limit c.size-size.result
          c.requires.1.1.2 (few
          c.before.before.before.before),
      c.requires.1.1.2.base-small,
    )

div-lesser-2 : tie.Need-nonzero_div-limit
div-lesser-2 c = omega (
  arith,
  c.effort-each.ensures,
  effort-some (part_in c.args.m.now c.args.kept.now),
)

returns-3 : tie.Need-returns
returns-3 c =
    c.lesser.ensures
    ∙ quota-from c.args.kept.now c.requires.0 c.requires.1.0 c.args.stage.first
    c.args.stage.limit c.args.t
    c.size-size.result c.effort-each.result (c.width.result + 4)
    (c.size-size.ensures ∙ ap (size_of c.args.layout) c.later-last.ensures) c.effort-each.ensures
    (ap (λ (x : ℕ). x + 4) c.width.ensures) (omega (
      arith,
      c.if-layout-gt16.false,
    )) (omega (
      arith,
      c.if-layout-gt16-2.false,
    ))

pub quota_spec : {M : Type 1} → statement M
quota_spec =
    tie.close
    (tie.spec returns returns-2 (λ c κs. search rules) size-requires effort-requires width-requires add-stride mul-lesser div-lesser mul-lesser-2 add-lesser div-lesser-2 (λ c κs. search rules) returns-3)
