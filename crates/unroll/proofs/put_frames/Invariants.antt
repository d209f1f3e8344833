-- The frames up to u are mapped. Assumes nothing.
use Rattle.layout.specs.Words.{circuit_in}
use Rattle.unroll.specs.Map.{FramedTo}
use Rattle.unroll.proofs.put_frames.Given as goal

abbrev pub invariant-loop-u : goal.invariant-loop-u
invariant-loop-u l = FramedTo l.aim.alone (circuit_in l.m) l.aim.b l.aim.t l.u l.fn.first.graph.free l.fn.first.graph.room l.work l.made l.map
