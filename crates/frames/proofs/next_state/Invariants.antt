use Rattle.std.proofs.Common.{◌≡◌, ℕ, ◌+◌, ◌*◌, ◌<◌, get_or}
use Rattle.aiger.specs.Bits.{bit}
use Rattle.aiger.specs.Frames.{value}
use Rattle.layout.specs.Words.{word}
use Rattle.frames.specs.Lanes.{lane}
use Rattle.frames.proofs.next_state.Given as goal

-- the words below j are those of next literals
abbrev pub invariant-loop-j : goal.invariant-loop-j
invariant-loop-j l =
    (i : ℕ) → i < l.j → (p : ℕ) → p < 64 → bit (get_or l.state i 0) p ≡ value (lane l.values p) (word l.m (l.latches + 3 * i + 1))
