-- `states::bucket` meets its contract. Assumes nothing.
use mathlib.Core.Path.{◌≡◌, ap}
use Prim.Native.Nat.{ℕ, ◌*◌, ◌/◌, ◌≤◌}
use native.Mathlib.Nat.{mul-le-mul}
use native.Mathlib.Omega.{arith}
use Rattle.states.specs.Number.{bucket_of}
use borrow.Author.Rules.{rules}
use Rattle.states.proofs.bucket.Statement.{statement}
use Rattle.states.proofs.bucket.Tie as tie

mul-result : tie.Need-overflow_mul-result
mul-result c =
    let a : c.hash.result * c.args.buckets ≤ 4294967295 * 4294967295 = mul-le-mul {n₁ = c.hash.result} {m₁ = c.args.buckets} {n₂ = 4294967295} {m₂ = 4294967295} (omega arith) (omega (arith, c.requires)) in
    omega arith

returns : tie.Need-returns
unfolding bucket_of
returns c = ap (λ (x : ℕ). x * c.args.buckets / 4294967296) c.hash.ensures

pub bucket_spec : {M : Type 1} → statement M
bucket_spec =
    tie.close
    (tie.spec (λ c κs. search rules) (λ c. search rules) mul-result returns)
