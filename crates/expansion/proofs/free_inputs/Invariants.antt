-- The free inputs that are counted so far. Assumes nothing.
use Rattle.std.proofs.Common.{◌≡◌}
use Rattle.pins.specs.Pins.{pins_of, free_inputs}
use Rattle.expansion.proofs.free_inputs.Given as goal

abbrev pub invariant-loop-i : goal.invariant-loop-i
invariant-loop-i l = l.count ≡ free_inputs (pins_of l.pins l.user) l.i
