-- The measure of the cycle of calls {both_within}: the number of turns.
use Rattle.std.proofs.Common.{ℕ}
use Rattle.conjunction.proofs.+both_within.Given as goal

abbrev pub decreases-both_within : goal.decreases-both_within
decreases-both_within l = l.turns
