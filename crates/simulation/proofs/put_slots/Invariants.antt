-- The slots before k have their values. Assumes nothing.
use Rattle.simulation.specs.Store.{SlotsPut}
use Rattle.simulation.proofs.put_slots.Given as goal

abbrev pub invariant-loop-k : goal.invariant-loop-k
invariant-loop-k l = SlotsPut l.fn.work l.work l.slots l.fn.from l.k l.block
