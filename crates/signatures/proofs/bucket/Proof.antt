-- `signatures::bucket` meets its contract. Assumes nothing.
use mathlib.Core.Path.{ap, ◌∙◌}
use Prim.Native.Nat.{ℕ, ◌%◌}
use native.Mathlib.Nat.{mod-lt}
use native.Mathlib.Omega.{arith}
use Rattle.signatures.specs.Bucket.{scrambled, bucket_of}
use borrow.Author.Rules.{rules}
use Rattle.signatures.proofs.bucket.Statement.{statement}
use Rattle.signatures.proofs.bucket.Tie as tie

returns : tie.Need-returns
unfolding bucket_of
returns c =
    let a = c.args in
    (ap (λ (h : ℕ). h % a.room) (c.scramble.ensures ∙ ap scrambled c.normal.ensures), mod-lt c.scramble.result (omega arith))

pub bucket_spec : {M : Type 1} → statement M
bucket_spec = tie.close (tie.spec (λ c κs. search rules) (λ c κs. search rules) (λ c. search rules) returns)
