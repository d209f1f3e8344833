-- `conflicts::sum` meets its contract. Assumes nothing.
use native.Mathlib.Omega.{arith}
use Rattle.conflicts.specs.Conflicts as Cf
use Rattle.conflicts.proofs.sum.Goals as goal

pub returns : goal.returns
unfolding Cf.sum
returns c = grind arith
