-- Graphs in working memory, and what making a gate leaves. Assumes nothing.
use Rattle.std.specs.Prelude.{◌≡◌, ◌&&◌, List, ℕ, ◌+◌, ◌*◌, ◌^◌, ◌≤◌, ◌<◌, length}
use Rattle.std.proofs.Math.Option.{none}
use Rattle.aiger.specs.Frames.{free_bit}
use Rattle.nodes.specs.Graph.{node_of, Pair, edge_value, pair_at, InGraph, Built, Extends}
use Rattle.nodes.specs.Store.{pairs_of, Sized}
use Rattle.nodes.specs.Edges.{edge_word}
use Rattle.nodes.specs.declared.Graph.{Graph}
use Rattle.nodes.specs.declared.Edge.{Edge}
use Rattle.pairs.specs.Store.{PairStore}
use Rattle.signatures.specs.Store.{SignatureStore}
use Rattle.signatures.specs.Twin.{Conjunction}
use Rattle.rules.specs.Rules.{simplified}
use Rattle.graph.specs.Chosen.{conjoin}
use Rattle.graph.specs.declared.Made.{Made}

-- the graph g stands in the memory
pub record Stored (work : List ℕ) (g : Graph) : Type 0 where
  pub sized : Sized g (length work)
  pub pairs : PairStore work g
  pub signatures : g.free ≤ 12 → SignatureStore work g
  pub built : Built g.free (pairs_of work g)

-- a graph without gates
abbrev pub empty_graph : ℕ → ℕ → Graph
empty_graph free room = record { free = free; nodes = free + 1; room = room }

-- where a graph may start: there is room for its leaves, and the memory has 16 words for each node
pub record Enough (free room words : ℕ) : Type 0 where
  pub leaves : free + 1 ≤ room
  pub most : room ≤ 65536
  pub held : 16 * room ≤ words

-- where a gate may be made of edges a and b
pub record Operands (work : List ℕ) (g : Graph) (a b : ℕ) : Type 0 where
  pub stored : Stored work g
  pub room : g.nodes < g.room
  pub left : node_of a < g.nodes
  pub right : node_of b < g.nodes

abbrev pub made_of : Graph → Edge → Made
made_of g e = record { graph = g; edge = e }

-- made is the conjunction of edges a and b: the graph has at most one gate more, and the edge is true exactly when a and b are
pub record Conjoined (work last : List ℕ) (g : Graph) (a b : ℕ) (made : Made) : Type 0 where
  pub stored : Stored last made.graph
  pub free : made.graph.free ≡ g.free
  pub room : made.graph.room ≡ g.room
  pub extends : Extends (pairs_of work g) (pairs_of last made.graph)
  -- which edge it is, and which gates there are then, the gates before and the edges alone say
  pub chosen : conjoin g.free (pairs_of work g) a b ≡ record { gates = pairs_of last made.graph; edge = edge_word made.edge }
  pub node : made.edge.0.0 < made.graph.nodes
  pub value :
      (x : ℕ) → x < 2 ^ g.free
      → edge_value g.free (pairs_of last made.graph) (free_bit g.free x) (edge_word made.edge)
      ≡ (edge_value g.free (pairs_of work g) (free_bit g.free x) a && edge_value g.free (pairs_of work g) (free_bit g.free x) b)

-- the operands of a gate: the larger one first, none constant, neither equal nor opposite, none repeated one gate down
pub record Proper (work : List ℕ) (g : Graph) (left right : ℕ) : Type 0 where
  pub stored : Stored work g
  pub room : g.nodes < g.room
  pub earlier : node_of left < g.nodes
  pub larger : node_of right < node_of left
  pub nonconstant : 2 ≤ right
  pub no-rule : simplified g.free (pairs_of work g) left right ≡ none

-- no gate of gs has these operands
abbrev pub Fresh : List Pair → ℕ → ℕ → Type 0
Fresh gs left right = (i : ℕ) → i < length gs → (pair_at gs i).left ≡ left → (pair_at gs i).right ≡ right → ⊥

-- no edge of the graph is equal in function to the conjunction of left and right
abbrev pub Twinless : ℕ → List Pair → ℕ → ℕ → Type 0
Twinless n gs left right = (e : ℕ) → InGraph n gs e → Conjunction n gs left right e → ⊥

-- where a gate may be added: no gate has its operands
pub record New (work : List ℕ) (g : Graph) (left right : ℕ) : Type 0 where
  pub proper : Proper work g left right
  pub fresh : Fresh (pairs_of work g) left right
