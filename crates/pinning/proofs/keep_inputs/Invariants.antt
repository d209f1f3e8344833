-- The inputs that are kept so far. Assumes nothing.
use Rattle.pins.specs.Pins.{pins_of}
use Rattle.pinning.proofs.Stores.{Keeping}
use Rattle.pinning.proofs.keep_inputs.Given as goal

abbrev pub invariant-loop-i : goal.invariant-loop-i
invariant-loop-i l = Keeping l.m (pins_of l.pins l.user) l.inputs l.fn.words l.words l.at l.i
