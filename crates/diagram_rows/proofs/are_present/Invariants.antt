use Rattle.std.proofs.Common.{◌≡◌, drop}
use Rattle.aiger.specs.Lists.{every}
use Rattle.layout.specs.Words.{circuit_in}
use Rattle.diagram_rows.specs.Rows.{is_present, next_literal}
use Rattle.diagram_rows.proofs.are_present.Given as goal

-- what is left of the latches passes where all of them pass
abbrev pub invariant-loop-j : goal.invariant-loop-j
invariant-loop-j l =
    every (λ j. is_present l.edges (next_literal (circuit_in l.m) j)) (drop l.j-index l.latches)
    ≡ every (λ j. is_present l.edges (next_literal (circuit_in l.m) j)) l.latches
