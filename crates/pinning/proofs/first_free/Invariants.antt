-- The inputs passed are free. Assumes nothing.
use Rattle.std.proofs.Common.{◌≡◌, true}
use Rattle.pins.specs.Pins.{pins_of}
use Rattle.pinning.specs.Free.{none_held}
use Rattle.pinning.proofs.first_free.Given as goal

abbrev pub invariant-loop-i : goal.invariant-loop-i
invariant-loop-i l = none_held (pins_of l.pins l.user) l.i ≡ true
