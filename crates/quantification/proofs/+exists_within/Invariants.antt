-- The measure of `quantification::exists_within`. Assumes nothing.
use Rattle.quantification.proofs.+exists_within.Given as goal

abbrev pub decreases-exists_within : goal.decreases-exists_within
decreases-exists_within l = l.turns
