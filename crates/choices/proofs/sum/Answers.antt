-- `choices::sum` meets its contract. Assumes nothing.
use native.Mathlib.Omega.{arith}
use Rattle.choices.specs.Choices as Ch
use Rattle.choices.proofs.sum.Goals as goal

pub returns : goal.returns
unfolding Ch.sum
returns c = grind arith
