use Rattle.std.proofs.Common.{◌+◌, ◌-◌}
use Rattle.output.specs.Row.{row_text}
use Rattle.output.proofs.Output.{Rest}
use Rattle.output.proofs.put_row.Given as goal

-- the row is written but for the words from word k on
abbrev pub invariant-loop-k : goal.invariant-loop-k
invariant-loop-k l = Rest l.fn.out l.fn.at (row_text l.m l.first l.n) l.out l.end (row_text l.m (l.first + l.k) (l.n - l.k))
