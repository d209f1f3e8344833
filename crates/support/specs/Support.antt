-- The support of an edge of a graph: the free bits that lead to it. Assumes nothing.
use Rattle.std.specs.Prelude.{Bool, false, List, ℕ, ◌-◌, get_or}
use Rattle.nodes.specs.Graph.{Pair, node_values}
use Rattle.cone.specs.Cone.{in_cone}

-- position i of a sequence's number, which is that of free bit n - 1 - i and node n - i, leads to the root
abbrev pub support : ℕ → List Pair → ℕ → ℕ → Bool
support n gs root i = in_cone n gs root (n - i)

-- the value of node k, where free bit j has value f j
abbrev pub node_value : ℕ → List Pair → (ℕ → Bool) → ℕ → Bool
node_value n gs f k = get_or (node_values n gs f) k false
