-- The edges of literals, free bits and starts. Assumes nothing.
use Rattle.std.specs.Prelude.{false, cond, List, ℕ, ◌+◌, eqb, get_or}
use Rattle.literals.specs.declared.Lit.{Lit}
use Rattle.nodes.specs.Edges.{edge_of, word_edge, opposite}
use Rattle.nodes.specs.declared.Edge.{Edge}

-- the edge of literal l
abbrev pub literal_edge : List ℕ → Lit → Edge
literal_edge map l = cond l.1 (opposite (word_edge (get_or map l.0.0 0))) (word_edge (get_or map l.0.0 0))

-- the edge of free bit j
abbrev pub free_edge : ℕ → Edge
free_edge j = edge_of (j + 1) false

-- the edge of a latch's start: free bit k where the start is free, else a constant
abbrev pub start_edge : ℕ → ℕ → ℕ → Edge
start_edge lit reset k = cond (eqb reset lit) (free_edge k) (edge_of 0 (eqb reset 1))
