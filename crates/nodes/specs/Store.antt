-- A graph in working memory: sixteen words for each node. Assumes nothing.
use Rattle.std.specs.Prelude.{List, map, ℕ, ◌+◌, ◌-◌, ◌*◌, ◌≤◌, get_or}
use Rattle.aiger.specs.Lists.{upto}
use Rattle.nodes.specs.Graph.{Pair}
use Rattle.nodes.specs.declared.Graph.{Graph}

-- word f of the record of node k. Words 0 and 1 are a gate's operands
abbrev pub field : List ℕ → ℕ → ℕ → ℕ
field work k f = get_or work (16 * k + f) 0

-- the operands of node k
abbrev pub pair_of : List ℕ → ℕ → Pair
pair_of work k = record { left = field work k 0; right = field work k 1 }

-- the gates that stand in working memory
unfoldable pub pairs_of : List ℕ → Graph → List Pair
pairs_of work g = map (λ i. pair_of work (g.free + 1 + i)) (upto (g.nodes - (g.free + 1)))

-- a graph's numbers fit a working memory of so many words
pub record Sized (g : Graph) (words : ℕ) : Type 0 where
  pub leaves : g.free + 1 ≤ g.nodes
  pub nodes : g.nodes ≤ g.room
  pub room : g.room ≤ 65536
  pub held : 16 * g.room ≤ words

-- the graph with one node more
abbrev pub one_more : Graph → Graph
one_more g = record { free = g.free; nodes = g.nodes + 1; room = g.room }
