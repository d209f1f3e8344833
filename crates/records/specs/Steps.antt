-- From the records of a graph to those of a conflict search, step by step, as functions of the words. Assumes nothing.
use Rattle.std.specs.Prelude.{cond, List, ℕ, zero, suc, ◌+◌, ◌-◌, ◌*◌, ◌/◌, ◌%◌, eqb, length, get_or, set}
use Rattle.memory.specs.Record.{field, stored}

-- word f of the graph's record of node k
abbrev pub word : List ℕ → ℕ → ℕ → ℕ
word w k f = get_or w (16 * k + f) 0

-- the edge to node k, or to its complement; a node's number takes 31 bits
abbrev pub edge_to : ℕ → ℕ → ℕ
edge_to k s = 2 * (k % 2147483648) + s % 2

-- an edge of the graph, by the number of its node
unfoldable pub renumber : List ℕ → ℕ → ℕ
renumber w e = edge_to (word w (e / 2) 10) e

unfoldable pub three : List ℕ → ℕ → ℕ → ℕ → ℕ → List ℕ
three w i a b c = set (set (set w i a) (i + 1) b) (i + 2) c

-- a step for each number below n, the largest first
unfoldable pub down : (List ℕ → ℕ → List ℕ) → ℕ → List ℕ → List ℕ
down step zero w = w
down step (suc n) w = down step n (step w n)

-- zeros in n words from word i on
abbrev pub zeroed : List ℕ → ℕ → ℕ → List ℕ
zeroed w i n = down (λ u j. set u (i + j) 0) n w

-- what is known of a free bit at the start: nothing, but that the hit does not depend on one that is not marked
unfoldable pub first_fact : ℕ → ℕ
first_fact mark = cond (eqb mark 0) 8 0

-- node k is no gate: both operands are its own edge
unfoldable pub leaf_set : List ℕ → ℕ → List ℕ
leaf_set w k = three w (16 * k) (edge_to k 0) (edge_to k 0) (first_fact (word w k 10))

-- the first n nodes
abbrev pub leaves_set : List ℕ → ℕ → List ℕ
leaves_set w n = down leaf_set n w

-- the operands of gate k get the numbers of their nodes
unfoldable pub gate_set : List ℕ → ℕ → List ℕ
gate_set w k = three w (16 * k) (renumber w (word w k 0)) (renumber w (word w k 1)) 0

-- n gates from node k on
abbrev pub gates_set : List ℕ → ℕ → ℕ → List ℕ
gates_set w k n = down (λ u j. gate_set u (k + j)) n w

-- the record of node k of the graph becomes that of node v of the netlist
unfoldable pub moved_to : List ℕ → ℕ → ℕ → List ℕ
moved_to w k v = three (zeroed w (14 * v) 14) (14 * v) (word w k 0) (word w k 1) (word w k 2)

-- of the node of its number, if it has one
unfoldable pub moved : List ℕ → ℕ → List ℕ
moved w k = cond (eqb (word w k 10) 0) w (moved_to w k (word w k 10))

-- n nodes from node k on
unfoldable pub all_moved : List ℕ → ℕ → ℕ → List ℕ
all_moved w k zero = w
all_moved w k (suc n) = all_moved (moved w k) (k + 1) n

-- gate g, by operand s, goes in front of the fan-outs of that operand's node
unfoldable pub linked_to : List ℕ → ℕ → ℕ → ℕ → ℕ → List ℕ
linked_to w nodes g s v =
    stored (stored w nodes g (12 + s) (field w nodes v 2 / 16)) nodes v 2 (field w nodes v 2 % 16 + 16 * (edge_to g s % 268435456))

abbrev pub linked : List ℕ → ℕ → ℕ → ℕ → List ℕ
linked w nodes g s = linked_to w nodes g s (field w nodes g s / 2)

-- n gates from node k on, the last one first
abbrev pub all_linked : List ℕ → ℕ → ℕ → ℕ → List ℕ
all_linked w nodes k n = down (λ u j. linked (linked u nodes (k + j) 1) nodes (k + j) 0) n w

-- the records of a netlist without its fan-outs, from those of a graph of n nodes with gates from node `first` on; all other words are 0
unfoldable pub compacted : List ℕ → ℕ → ℕ → ℕ → List ℕ
compacted w first n nodes =
    let u = all_moved (moved_to (gates_set w first (n - first)) 0 0) 1 (n - 1) in
    zeroed u (14 * nodes) (length u - 14 * nodes)

unfoldable pub arranged : List ℕ → ℕ → ℕ → ℕ → List ℕ
arranged w first n nodes = all_linked (compacted w first n nodes) nodes first (nodes - first)
