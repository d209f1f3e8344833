-- The gates are written but for those from place j on. Assumes nothing.
use Rattle.std.proofs.Common.{◌-◌}
use Rattle.output.proofs.Output.{Rest}
use Rattle.binary_text.specs.Lines.{gate_bytes}
use Rattle.binary_text.proofs.write_gates.Given as goal

abbrev pub invariant-loop-j : goal.invariant-loop-j
invariant-loop-j l =
    Rest l.fn.out l.fn.at (gate_bytes l.names l.m l.first l.order 0 l.count) l.out l.end (gate_bytes l.names l.m l.first l.order l.j (l.count - l.j))
