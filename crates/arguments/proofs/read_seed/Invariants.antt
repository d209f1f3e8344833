-- The first bytes are digits and stand for the total. Assumes nothing.
use Rattle.arguments.proofs.Numbers.{Reading}
use Rattle.arguments.proofs.read_seed.Given as goal

abbrev pub invariant-loop-b : goal.invariant-loop-b
invariant-loop-b l = Reading l.fn.text l.total l.b-index
