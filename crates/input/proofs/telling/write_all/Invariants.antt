-- The measure is how many bytes are left. Assumes nothing.
use Rattle.std.proofs.Common.{length, ◌-◌}
use Rattle.input.proofs.telling.write_all.Given as goal

abbrev pub decreases-loop-done : goal.decreases-loop-done
decreases-loop-done g l = length l.text - l.done
