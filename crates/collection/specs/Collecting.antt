-- Which nodes are kept and what becomes of them, as functions of the nodes. A node's `next` word is its mark, and then its new number: the
-- hash lists are made anew at the end. Assumes nothing.
use Rattle.std.specs.Prelude.{Result, Ok, Err, ⊤, Bool, true, false, cond, List, [], ◌∷◌, map, ℕ, zero, suc, ◌+◌, ◌-◌, ◌/◌, ltb, eqb, length, get_or, set, take, replicate}
use Rattle.diagrams.specs.declared.Vertex.{Vertex}
use Rattle.diagrams.specs.Words.{node_at, flip, edge_to}
use Rattle.diagrams.specs.States.{State, list_of, paid, is_paid}
use Rattle.diagrams.specs.declared.Full.{Full}

-- a state with other nodes
abbrev pub with_nodes : State → List Vertex → State
with_nodes s ns = record { room = s.room; looks = s.looks; nodes = ns; heads = s.heads; cache = s.cache }

-- node k with x for `next`
unfoldable pub linked_in : List Vertex → ℕ → ℕ → List Vertex
linked_in ns k x = set ns k (record { lo = (node_at ns k).lo; hi = (node_at ns k).hi; var = (node_at ns k).var; next = x })

-- ---- marks

-- the first i nodes without a mark
unfoldable pub unmarked_in : ℕ → List Vertex → List Vertex
unmarked_in zero ns = ns
unmarked_in (suc i) ns = linked_in (unmarked_in i ns) i 0

-- marks for the nodes of the first i roots
unfoldable pub rooted_in : List ℕ → ℕ → List Vertex → List Vertex
rooted_in roots zero ns = ns
rooted_in roots (suc i) ns = linked_in (rooted_in roots i ns) (get_or roots i 0 / 2) 1

-- marks for the two nodes under node n, where it has one
unfoldable pub edges_marked : List Vertex → ℕ → List Vertex
edges_marked ns n =
    cond (eqb (node_at ns n).next 0) ns (linked_in (linked_in ns ((node_at ns n).lo / 2) 1) ((node_at ns n).hi / 2) 1)

-- the same for j nodes in turn, from the last one down
unfoldable pub swept_in : ℕ → ℕ → List Vertex → List Vertex
swept_in last zero ns = ns
swept_in last (suc j) ns = edges_marked (swept_in last j ns) (last - j)

-- marks for all nodes that the roots need, but none for node 0, which keeps its number
unfoldable pub marked_in : List ℕ → List Vertex → List Vertex
marked_in roots ns =
    linked_in (swept_in (length ns - 1) (length ns - 1) (rooted_in roots (length roots) (unmarked_in (length ns) ns))) 0 0

-- ---- new numbers

-- an edge by the new number of its node
unfoldable pub renamed_in : List Vertex → ℕ → ℕ
renamed_in ns e = flip (edge_to (node_at ns (e / 2)).next) e

-- node n moved to number k
unfoldable pub moved_in : List Vertex → ℕ → ℕ → List Vertex
moved_in ns n k =
    linked_in
    (set ns k
    (record { lo = renamed_in ns (node_at ns n).lo; hi = renamed_in ns (node_at ns n).hi; var = (node_at ns n).var; next = (node_at ns k).next }))
    n k

-- nodes, and how many of them are new
pub record Packed : Type 0 where
  pub nodes : List Vertex
  pub count : ℕ

abbrev pub packed : List Vertex → ℕ → Packed
packed ns k = record { nodes = ns; count = k }

-- one node in turn: moved where it is marked
unfoldable pub packed_one : Packed → ℕ → Packed
packed_one p n =
    cond (eqb (node_at p.nodes n).next 0) p (record { nodes = moved_in p.nodes n p.count; count = suc p.count })

-- the nodes from 1 to j in turn; node 0 stays
unfoldable pub packed_in : ℕ → List Vertex → Packed
packed_in zero ns = record { nodes = ns; count = 1 }
packed_in (suc j) ns = packed_one (packed_in j ns) (suc j)

-- ---- the state

-- the first k nodes, with empty hash lists and an empty cache
unfoldable pub trimmed : State → ℕ → State
trimmed s k =
    record {
      room = s.room;
      looks = s.looks;
      nodes = take k s.nodes;
      heads = replicate (length s.heads) 0;
      cache = replicate (length s.cache) 0;
    }

-- node n as the first of hash list h
abbrev pub hashed_at : State → ℕ → ℕ → State
hashed_at s n h =
    record {
      room = s.room;
      looks = s.looks;
      nodes = linked_in s.nodes n (get_or s.heads h 0);
      heads = set s.heads h n;
      cache = s.cache;
    }

-- node n in its hash list
unfoldable pub hashed : State → ℕ → State
hashed s n = hashed_at s n (list_of s (node_at s.nodes n).var (node_at s.nodes n).lo (node_at s.nodes n).hi)

-- the nodes from 1 to j in their hash lists
unfoldable pub rehashed : ℕ → State → State
rehashed zero s = s
rehashed (suc j) s = hashed (rehashed j s) (suc j)

-- a state, the roots, and whether the looks sufficed
pub record Collection : Type 0 where
  pub state : State
  pub roots : List ℕ
  pub kept : Bool

-- what a collection answers: that the looks sufficed, or that they are spent
abbrev pub Collected : Type 0
Collected = Result ⊤ Full

abbrev pub is_kept : Collected → Bool
is_kept (Ok done) = true
is_kept (Err full) = false

-- what is left beside an answer
abbrev pub collection : State → List ℕ → Bool → Collection
collection s roots kept = record { state = s; roots = roots; kept = kept }

-- the nodes that p has as new ones, in their hash lists
unfoldable pub settled : State → Packed → State
settled s p = rehashed (p.count - 1) (trimmed (with_nodes s p.nodes) p.count)

-- the same with the roots by their new numbers, and half a look for each node
unfoldable pub gathered_by : State → List ℕ → Packed → Collection
gathered_by s roots p =
    collection (paid (settled s p) (p.count / 2)) (map (renamed_in p.nodes) roots) (is_paid (settled s p) (p.count / 2))

unfoldable pub gathered : State → List ℕ → Collection
gathered s roots = gathered_by s roots (packed_in (length s.nodes - 1) (marked_in roots s.nodes))

-- a quarter of a look for each node first; nothing is done where there is no node or one past the room
unfoldable pub collected : State → List ℕ → Collection
collected s roots =
    cond (eqb (length s.nodes) 0) (collection s roots false)
    (cond (ltb s.room (length s.nodes)) (collection s roots false)
    (cond (is_paid s (length s.nodes / 4)) (gathered (paid s (length s.nodes / 4)) roots)
    (collection (paid s (length s.nodes / 4)) roots false)))
