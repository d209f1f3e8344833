-- Which circuit fold writes: a function of the circuit, b and t. Assumes nothing.
use Rattle.std.specs.Prelude.{ℕ}
use Rattle.aiger.specs.Circuit.{Circuit}
use Rattle.aiger.specs.Frames.{free_bits}
use Rattle.cone.specs.Cone.{folded}
use Rattle.unroll.specs.Chosen.{unrolled}

-- the gates that lead to the edge of the hit, in the graph that unrolling gives
unfoldable pub chosen : Circuit → ℕ → ℕ → Circuit
chosen c b t = folded (free_bits c t) (unrolled c b t).gates (unrolled c b t).edge
