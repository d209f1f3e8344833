use Rattle.std.proofs.Common.{ℕ, ◌<◌, ◌*◌, T}
use Rattle.aiger.specs.Search.{onward, reaches}
use Rattle.layout.specs.Words.{circuit_in}
use Rattle.enumeration.proofs.scan_span.Given as goal

-- no place of an earlier block hits
abbrev pub invariant-loop-block : goal.invariant-loop-block
invariant-loop-block l = (y : ℕ) → y < 64 * l.block → T (onward l.from (reaches (circuit_in l.m) l.q.b l.q.t) y) → ⊥
