-- The slots before k have their bits. Assumes nothing.
use Rattle.simulation.specs.Store.{BitsPut}
use Rattle.simulation.proofs.put_bits.Given as goal

abbrev pub invariant-loop-k : goal.invariant-loop-k
invariant-loop-k l = BitsPut l.fn.work l.work l.slots l.k l.y
