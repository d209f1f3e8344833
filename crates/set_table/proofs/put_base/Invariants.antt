use Rattle.layout.specs.Words.{circuit_in}
use Rattle.diagram_rows.proofs.Follow.{Begun}
use Rattle.set_stage.specs.Plans.{reset_word}
use Rattle.set_table.proofs.put_base.Given as goal

-- the first v words are the start values of the first v variables
abbrev pub invariant-loop-v : goal.invariant-loop-v
invariant-loop-v l = Begun (reset_word (circuit_in l.m)) l.latches l.v l.base
