use Rattle.std.proofs.Common.{◌≡◌, drop}
use Rattle.layout.specs.Words.{circuit_in}
use Rattle.diagrams.specs.States.{state_of}
use Rattle.set_stage.specs.Table.{with_resets}
use Rattle.set_table.proofs.with_resets.Given as goal

-- what is left of the latches, from the diagram and the edge that there are, gives what all of them give
abbrev pub invariant-loop-v : goal.invariant-loop-v
invariant-loop-v l =
    with_resets (circuit_in l.m) l.v (drop l.v l.latches) (state_of l.w) l.e ≡ with_resets (circuit_in l.m) 0 l.latches (state_of l.initial.w) 1
