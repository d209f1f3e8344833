-- `analysis::sum` meets its contract. Assumes nothing.
use native.Mathlib.Omega.{arith}
use Rattle.analysis.specs.Analysis as S
use Rattle.analysis.proofs.sum.Goals as goal

pub returns : goal.returns
unfolding S.sum
returns c = grind arith
