-- `reachable::put_free` meets its contract. Assumes nothing.
use mathlib.Core.Path.{refl}
use Prim.Native.Nat.{ℕ, ◌+◌, ◌*◌, ◌^◌, ◌≤◌}
use native.Mathlib.Nat.{mul-le-mul_left}
use native.Mathlib.Omega.{arith}
use lib.Pow.{pow_mono}
use borrow.Author.Rules.{rules}
use Rattle.reachable.proofs.put_free.Statement.{statement}
use Rattle.reachable.proofs.put_free.Tie as tie

-- the free bits up to a frame are few
few : (free width t : ℕ) → t ≤ 255 → free + width * (t + 1) ≤ free + width * 256
few free width t l = let a : width * (t + 1) ≤ width * 256 = mul-le-mul_left width (omega arith) in omega arith

walk-requires : tie.Need-walk-requires
walk-requires c κs = (
  (
    c.requires.0.0,
    omega arith,
    omega (
      arith,
      c.requires.0.1,
      pow_mono {i = c.args.width} {j = 16} c.requires.0.3,
    ),
    c.requires.0.4,
  ),
  (
    2 ^ c.args.width,
    c.requires.1.0,
    c.requires.0.1,
    c.requires.1.1,
  ),
)

add-put-trace : tie.Need-overflow_add-t
add-put-trace c = omega (arith, c.requires.0.0)

mul-put-trace : tie.Need-overflow_mul-width
mul-put-trace c =
    omega (
      arith,
      few c.args.free c.args.width c.args.t c.requires.0.0,
      c.requires.0.3,
      c.requires.0.2,
    )

add-put-trace-2 : tie.Need-overflow_add-free
add-put-trace-2 c =
    omega (
      arith,
      few c.args.free c.args.width c.args.t c.requires.0.0,
      c.requires.0.3,
      c.requires.0.2,
    )

put-trace-requires : tie.Need-put_trace-requires
put-trace-requires c κs = (
  omega (arith, c.walk.auto.trace),
  c.requires.0.2,
  c.requires.0.3,
  few c.args.free c.args.width c.args.t c.requires.0.0,
  c.requires.0.5,
)

same_length : tie.Need-shape_of-work
same_length c = c.put_trace.auto.work

returns : tie.Need-returns
returns c =
    λ y h. c.put_trace.ensures c.args.t (y * 2 ^ c.args.width + c.args.row)
    (c.walk.ensures (2 ^ c.args.width) y h c.requires.0.1) refl

pub put_free_spec : {M : Type 1} → statement M
put_free_spec =
    tie.close
    (tie.spec (λ c. search rules) walk-requires (λ c. search rules) add-put-trace mul-put-trace add-put-trace-2 put-trace-requires same_length returns)
