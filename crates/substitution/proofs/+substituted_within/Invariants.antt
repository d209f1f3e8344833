-- The measure of `substitution::substituted_within`. Assumes nothing.
use Rattle.substitution.proofs.+substituted_within.Given as goal

abbrev pub decreases-substituted_within : goal.decreases-substituted_within
decreases-substituted_within l = l.turns
