-- `generator::step` meets its contract. Assumes nothing.
use Rattle.std.proofs.Common.{◌^◌, ◌∙◌, rules}
use native.Mathlib.Nat.{mod-add-mod}
use Rattle.aiger.specs.Signature as Signature
use Rattle.generator.proofs.step.Statement.{statement}
use Rattle.generator.proofs.step.Tie as tie

returns : tie.Need-returns
unfolding Signature.step
returns c = c.wrapping_add_u64.ensures ∙ rw c.wrapping_mul.ensures (mod-add-mod _ (2 ^ 64) _)

pub step_spec : {M : Type 1} → statement M
step_spec = tie.close (tie.spec (λ c κs. search rules) (λ c κs. search rules) returns)
