-- So far the line is gathered; the measure is how many reads can still be counted. Assumes nothing.
use Rattle.std.proofs.Common.{◌-◌}
use Rattle.panel_input.proofs.Keeping.{Gathers}
use Rattle.panel_input.proofs.receive.Given as goal

abbrev pub invariant-loop-rt : goal.invariant-loop-rt
invariant-loop-rt l = Gathers l.got.line

abbrev pub decreases-loop-rt : goal.decreases-loop-rt
decreases-loop-rt l = 18446744073709551616 - l.got.line.reads
