-- `limits::size` meets its contract: the product is small, and the value is the size. Assumes nothing.
use Prim.Native.Nat.{◌+◌, ◌*◌, ◌≤◌}
use native.Mathlib.Omega.{arith}
use borrow.Author.Rules.{rules}
use Rattle.limits.proofs.Sizes.{product_small}
use Rattle.limits.proofs.size.Statement.{statement}
use Rattle.limits.proofs.size.Tie as tie

small : (s : tie.Start) → (s.args.k + 1) * (s.args.layout.i + s.args.layout.a + s.args.layout.c + 1) ≤ 856320
small s = product_small s.args.k (s.args.layout.i + s.args.layout.a + s.args.layout.c + 1) (omega (arith, s.requires.1)) (omega (arith, s.requires.0))

mul-result : tie.Need-overflow_mul-result
mul-result c = omega (arith, small c.before.before)

add-result-5 : tie.Need-overflow_add-result-5
add-result-5 c = omega (arith, small c.before.before.before, c.requires.0)

add-result-6 : tie.Need-overflow_add-result-6
add-result-6 c = omega (arith, small c.before.before.before, c.requires.0)

pub size_spec : {M : Type 1} → statement M
size_spec =
    tie.close
    (tie.spec (λ c. search rules) (λ c. search rules) (λ c. search rules) (λ c. search rules) mul-result add-result-5 add-result-6 (λ c. search rules))
