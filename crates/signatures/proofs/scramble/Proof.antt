-- `signatures::scramble` meets its contract. Assumes nothing.
use mathlib.Core.Path.{ap}
use Prim.Native.Nat.{ℕ, ◌+◌, ◌*◌, ◌/◌, ◌%◌, ◌^◌}
use Rattle.signatures.specs.Bucket.{scrambled}
use borrow.Author.Rules.{rules}
use Rattle.signatures.proofs.scramble.Statement.{statement}
use Rattle.signatures.proofs.scramble.Tie as tie

returns : tie.Need-returns
unfolding scrambled
returns c = ap (λ (h : ℕ). (h % 2 ^ 32 + h / 2 ^ 32) * 1481765933 / 2 ^ 20) c.halves-h.ensures.0

pub scramble_spec : {M : Type 1} → statement M
scramble_spec = tie.close (tie.spec (λ c κs. search rules) (λ c. search rules) (λ c. search rules) returns)
