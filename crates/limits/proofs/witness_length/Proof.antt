-- `limits::witness_length` meets its contract: a number has at most ten digits, and the value is the length. Assumes nothing.
use Prim.Native.Nat.{◌+◌, ◌*◌, ◌≤◌}
use native.Mathlib.Omega.{arith}
use borrow.Author.Rules.{rules}
use Rattle.numbers.proofs.Digits.{digits-most}
use Rattle.limits.proofs.Sizes.{product_small}
use Rattle.limits.proofs.witness_length.Statement.{statement}
use Rattle.limits.proofs.witness_length.Tie as tie

small : (s : tie.Start) → (s.args.k + 1) * (s.args.layout.i + 1) ≤ 856320
small s = product_small s.args.k (s.args.layout.i + 1) (omega (arith, s.requires.1)) (omega (arith, s.requires.0))

ten : (n : tie.After-digit_count-number) → n.digit_count-number.result ≤ 10
ten n = omega (arith, n.digit_count-number.ensures, digits-most 9 n.args.b)

add-result : tie.Need-overflow_add-result
add-result c = omega (arith, ten c)

add-result-2 : tie.Need-overflow_add-result-2
add-result-2 c = omega (arith, ten c)

add-result-4 : tie.Need-overflow_add-result-4
add-result-4 c = omega (arith, ten c.before, c.requires.0)

mul-result : tie.Need-overflow_mul-result
mul-result c = omega (arith, small c.before.before.before)

add-result-7 : tie.Need-overflow_add-result-7
add-result-7 c = omega (arith, ten c.before.before, small c.before.before.before, c.requires.0)

add-result-8 : tie.Need-overflow_add-result-8
add-result-8 c = omega (arith, ten c.before.before, small c.before.before.before, c.requires.0)

returns : tie.Need-returns
returns c = omega (arith, c.digit_count-number.ensures)

pub witness_length_spec : {M : Type 1} → statement M
witness_length_spec =
    tie.close
    (tie.spec (λ c κs. search rules) add-result add-result-2 (λ c. search rules) add-result-4 (λ c. search rules) (λ c. search rules) mul-result add-result-7 add-result-8 returns)
