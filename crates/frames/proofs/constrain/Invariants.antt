use Rattle.std.proofs.Common.{◌≡◌, ℕ, ◌+◌, ◌<◌}
use Rattle.std.specs.Prelude.{◌&&◌}
use Rattle.aiger.specs.Bits.{bit}
use Rattle.aiger.specs.Lists.{every_below}
use Rattle.aiger.specs.Frames.{value}
use Rattle.layout.specs.Words.{word}
use Rattle.frames.specs.Lanes.{lane}
use Rattle.frames.proofs.constrain.Given as goal

-- the constraints below k have been met
abbrev pub invariant-loop-k : goal.invariant-loop-k
invariant-loop-k l =
    (p : ℕ) → p < 64 → bit l.left p ≡ (bit l.fn.from p && every_below l.k (λ j. value (lane l.values p) (word l.m (l.constraints + j))))
