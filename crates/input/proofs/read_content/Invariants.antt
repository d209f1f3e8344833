-- So far the content is gathered; the measure is how many reads can still be counted. Assumes nothing.
use Rattle.std.proofs.Common.{◌-◌}
use Rattle.input.proofs.Contents.{Gathers}
use Rattle.input.proofs.read_content.Given as goal

abbrev pub invariant-loop-got : goal.invariant-loop-got
invariant-loop-got g l = Gathers l.got.content

abbrev pub decreases-loop-got : goal.decreases-loop-got
decreases-loop-got g l = 18446744073709551616 - l.got.content.reads
