-- What a quantification leaves, as a function of the state. Assumes nothing.
use Rattle.std.specs.Prelude.{cond, ℕ, zero, suc, ◌/◌, ltb, leb}
use Rattle.std.proofs.Math.Option.{none, some}
use Rattle.diagrams.specs.declared.Vertex.{Vertex}
use Rattle.diagrams.specs.Words.{node_at, flip}
use Rattle.diagrams.specs.States.{State, Outcome, outcome, and_then, looked_up, or_else, finished}

-- a way to answer for one edge
abbrev pub Way : Type 0
Way = State → ℕ → Outcome

-- a constant is as it is, and an edge whose variable is at or past the level is possible
unfoldable pub or_plain : ℕ → Way → Way
or_plain level way s e =
    cond (ltb e 2) (outcome s (some e)) (cond (leb level (node_at s.nodes (e / 2)).var) (outcome s (some 1)) (way s e))

-- the node of the results of both halves of edge e, whose node is n
unfoldable pub from_halves : Way → Vertex → ℕ → State → Outcome
from_halves rec n e s =
    and_then (rec s (flip n.lo e)) (λ t lo. and_then (rec t (flip n.hi e)) (λ u hi. finished u n.var lo hi e 0 1))

unfoldable pub turn : Way → Way
turn rec s e = or_else (looked_up s e 0 1) (from_halves rec (node_at s.nodes (e / 2)) e)

abbrev pub no_turn : Way
no_turn s e = outcome s none

-- the quantification in so many nested turns
unfoldable pub exists_within : ℕ → ℕ → Way
exists_within level zero = or_plain level no_turn
exists_within level (suc n) = or_plain level (turn (exists_within level n))

-- what e is for some values of the variables from the level on
unfoldable pub exists : ℕ → Way
exists level s e = exists_within level 1280 s e
