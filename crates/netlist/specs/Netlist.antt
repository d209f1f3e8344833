-- The netlist of a root edge of a graph, as a function of the graph, the root and the number of words. Assumes nothing.
use Rattle.std.specs.Prelude.{◌≡◌, Bool, cond, List, map, ℕ, ◌+◌, ◌-◌, ◌*◌, ◌/◌, ◌%◌, ◌<◌, eqb, leb, ltb, length, get_or}
use Rattle.aiger.specs.Lists.{upto}
use Rattle.aiger.specs.Circuit.{var}
use Rattle.meaning.specs.Frame.{gate_at}
use Rattle.nodes.specs.Graph.{Pair, Built}
use Rattle.nodes.specs.Store.{pairs_of, Sized}
use Rattle.nodes.specs.declared.Graph.{Graph}
use Rattle.cone.specs.Cone.{in_cone, kept_before, renumbered, folded}
use Rattle.cone.specs.Store.{Marks}
use Rattle.memory.specs.declared.Netlist.{Netlist}
use Rattle.records.specs.Steps.{all_linked}

-- the constant, the free bits and the gates that lead to the root
unfoldable pub net_nodes : ℕ → List Pair → ℕ → ℕ
net_nodes n gs root = n + 1 + kept_before n gs root (length gs)

-- word f of the record of node v, which is no gate: both operands are its own edge, and the hit does not depend on it where it does not
-- lead to the root
unfoldable pub leaf_word : ℕ → List Pair → ℕ → ℕ → ℕ → ℕ
leaf_word n gs root v f = cond (ltb f 2) (2 * v) (cond (eqb f 2) (cond (in_cone n gs root v) 0 8) 0)

-- word f of the record of gate p
unfoldable pub gate_word : ℕ → List Pair → ℕ → ℕ → ℕ → ℕ
gate_word n gs root p f = cond (eqb f 0) (gate_at (folded n gs root) p).left (cond (eqb f 1) (gate_at (folded n gs root) p).right 0)

unfoldable pub record_word : ℕ → List Pair → ℕ → ℕ → ℕ → ℕ
record_word n gs root v f = cond (leb v n) (leaf_word n gs root v f) (gate_word n gs root (v - (n + 1)) f)

-- word i where there are no fan-outs yet: records of 14 words, and zeros after them
unfoldable pub plain_word : ℕ → List Pair → ℕ → ℕ → ℕ
plain_word n gs root i = cond (ltb i (14 * net_nodes n gs root)) (record_word n gs root (i / 14) (i % 14)) 0

unfoldable pub plain : ℕ → List Pair → ℕ → ℕ → List ℕ
plain n gs root words = map (plain_word n gs root) (upto words)

-- the same with the fan-outs of all gates
unfoldable pub net_words : ℕ → List Pair → ℕ → ℕ → List ℕ
net_words n gs root words = all_linked (plain n gs root words) (net_nodes n gs root) (n + 1) (net_nodes n gs root - (n + 1))

unfoldable pub net_of : ℕ → List Pair → ℕ → ℕ → Netlist
net_of n gs root words = record { nodes = net_nodes n gs root; free = n; root = renumbered n gs root root; words = words }

-- a graph that has all words to itself, and the marks of the root's cone
pub record Marked (work : List ℕ) (g : Graph) (root : ℕ) : Type 0 where
  pub sized : Sized g (length work)
  pub exact : length work ≡ 16 * g.room
  pub built : Built g.free (pairs_of work g)
  pub marks : Marks (pairs_of work g) work g root
  pub inside : var root < g.nodes

-- the words and the netlist that are left
pub record NetlistIs (n : ℕ) (gs : List Pair) (root : ℕ) (work last : List ℕ) (net : Netlist) : Type 0 where
  pub words_are : last ≡ net_words n gs root (length work)
  pub net-is : net ≡ net_of n gs root (length work)
