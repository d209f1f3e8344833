-- `reachable::effort` meets its contract. Assumes nothing.
use mathlib.Core.Path.{◌≡◌}
use Prim.Native.Nat.{ℕ, ◌+◌, ◌-◌, ◌*◌, ◌^◌, ◌≤◌}
use native.Mathlib.Nat.{mul-le-mul}
use native.Mathlib.Omega.{arith}
use lib.Pow.{pow_mono}
use lib.ListN.{length}
use Rattle.frames.proofs.Places.{latches-few}
use Rattle.reachable.proofs.Quotas.{gates-small, effort-is}
use Rattle.reachable.proofs.effort.Statement.{statement}
use Rattle.reachable.proofs.effort.Tie as tie

-- the two products are small
first_small : (a l w i : ℕ) → a ≤ 3072 → l ≤ 1024 → i ≤ 16 → w ≡ 2 ^ (i - 6) → (a + l + 1) * w ≤ 4195328
first_small a l w i x y z e =
    let k = pow_mono {i = i - 6} {j = 10} (omega arith) in
    mul-le-mul {n₁ = a + l + 1} {m₁ = w} {n₂ = 4097} {m₂ = 1024} (omega arith) (omega arith)

second-small : (l r : ℕ) → l ≤ 1024 → r ≤ 65536 → (l + 8) * r ≤ 67633152
second-small l r y z = mul-le-mul {n₁ = l + 8} {m₁ = r} {n₂ = 1032} {m₂ = 65536} (omega arith) z

blocks-requires : tie.Need-blocks-words-requires
blocks-requires c κs = c.requires.1.1.0

power-requires : tie.Need-power-rows-requires
power-requires c κs = c.requires.1.1.0

add-result : tie.Need-overflow_add-result
add-result c =
    omega (arith, gates-small c.args.kept.now c.requires.0 c.requires.1.0, latches-few c.requires.0 c.requires.1.0)

add-result-2 : tie.Need-overflow_add-result-2
add-result-2 c =
    omega (arith, gates-small c.args.kept.now c.requires.0 c.requires.1.0, latches-few c.requires.0 c.requires.1.0)

mul-result : tie.Need-overflow_mul-result
mul-result c =
    omega (
      arith,
      first_small c.args.layout.a c.args.layout.l c.blocks-words.result c.args.layout.i
          (gates-small c.args.kept.now c.requires.0 c.requires.1.0) (latches-few c.requires.0 c.requires.1.0)
          c.requires.1.1.0 c.blocks-words.ensures,
    )

add-result-3 : tie.Need-overflow_add-result-3
add-result-3 c = omega (arith, c.requires.1.1.1)

mul-result-2 : tie.Need-overflow_mul-result-2
mul-result-2 c =
    omega (arith, second-small (length c.args.kept.now) c.power-rows.result c.requires.1.1.1 c.power-rows.ensures.1)

add-result-4 : tie.Need-overflow_add-result-4
add-result-4 c =
    omega (
      arith,
      first_small c.args.layout.a c.args.layout.l c.blocks-words.result c.args.layout.i
          (gates-small c.args.kept.now c.requires.0 c.requires.1.0) (latches-few c.requires.0 c.requires.1.0)
          c.requires.1.1.0 c.blocks-words.ensures,
      second-small (length c.args.kept.now) c.power-rows.result
          c.requires.1.1.1 c.power-rows.ensures.1,
    )

returns : tie.Need-returns
returns c =
    effort-is c.args.kept.now c.requires.0 c.requires.1.0 c.blocks-words.result c.power-rows.result
    c.blocks-words.ensures c.power-rows.ensures.0

pub effort_spec : {M : Type 1} → statement M
effort_spec =
    tie.close
    (tie.spec blocks-requires power-requires add-result add-result-2 mul-result add-result-3 mul-result-2 add-result-4 returns)
