-- `diagrams::bucket` meets its contract: the second product is below 2^64. Assumes nothing.
use mathlib.Core.Path.{refl}
use Prim.Native.Nat.{◌+◌, ◌*◌, ◌%◌, ◌≤◌}
use native.Mathlib.Nat.{mul-le-mul_left}
use native.Mathlib.Omega.{arith}
use borrow.Author.Rules.{rules}
use Rattle.diagrams.specs.Words.{bucket_of}
use Rattle.diagrams.proofs.bucket.Statement.{statement}
use Rattle.diagrams.proofs.bucket.Tie as tie

mul-result : tie.Need-overflow_mul-result
mul-result c =
    let a = c.args in
    let x = (a.a * 1327217885 + a.b * 889516853 + a.c * 1640531527) % 4294967296 in
    let l : x * (a.size % 4294967296) ≤ x * 4294967295 = mul-le-mul_left x (omega arith) in
    omega (arith, l)

returns : tie.Need-returns
unfolding bucket_of
returns c =
    let a = c.args in
    let x = (a.a * 1327217885 + a.b * 889516853 + a.c * 1640531527) % 4294967296 in
    let l : x * (a.size % 4294967296) ≤ x * 4294967295 = mul-le-mul_left x (omega arith) in
    (refl, omega (arith, l))

pub bucket_spec : {M : Type 1} → statement M
bucket_spec =
    tie.close
    (tie.spec (λ c. search rules) (λ c. search rules) (λ c. search rules) (λ c. search rules) (λ c. search rules) mul-result returns)
