-- The measure is how many arguments are left. Assumes nothing.
use Rattle.std.proofs.Common.{◌-◌}
use Rattle.widens.proofs.main.Given as goal

abbrev pub decreases-loop-k : goal.decreases-loop-k
decreases-loop-k l = l.count - l.k
