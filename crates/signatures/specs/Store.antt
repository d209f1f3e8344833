-- Signatures and buckets of nodes in working memory. Assumes nothing.
use Rattle.std.specs.Prelude.{◌≡◌, Bool, ◌&&◌, List, ℕ, ◌+◌, ◌-◌, ◌*◌, ◌≤◌, ◌<◌, eqb, length, get_or}
use Rattle.aiger.specs.Bits.{bit}
use Rattle.aiger.specs.Signature.{pattern_bit}
use Rattle.nodes.specs.Graph.{node_of, Pair, edge_value, pair_at}
use Rattle.nodes.specs.Store.{field, pairs_of}
use Rattle.nodes.specs.declared.Graph.{Graph}
use Rattle.signatures.specs.Words.{word_at, Kept, signature_word}
use Rattle.nodes.specs.Last.{last_before}
use Rattle.signatures.specs.Bucket.{bucket_of}

-- the value of edge e in pattern p
abbrev pub pattern_value : ℕ → List Pair → ℕ → ℕ → Bool
pattern_value n gs e p = edge_value n gs (λ j. pattern_bit j p) e

-- node k is in bucket h
abbrev pub in_bucket : List ℕ → ℕ → ℕ → ℕ → Bool
in_bucket work room h k = eqb (bucket_of room (word_at work k 2)) h

-- of the nodes below m: word 7 of record h is one more than the last node of bucket h, or 0; word 5 of a node is one more than the node
-- before it in its bucket, or 0
pub record Chained (work : List ℕ) (room m : ℕ) : Type 0 where
  pub heads : (h : ℕ) → h < room → field work h 7 ≡ last_before (in_bucket work room h) m
  pub chain : (k : ℕ) → k < m → field work k 5 ≡ last_before (in_bucket work room (bucket_of room (word_at work k 2))) k

-- node k with signature s was made the last node of its bucket
pub record Linked (work last : List ℕ) (room k s : ℕ) : Type 0 where
  pub stored : word_at last k 2 ≡ s
  pub next : field last k 5 ≡ field work (bucket_of room s) 7
  pub head : field last (bucket_of room s) 7 ≡ k + 1
  pub others :
      (i : ℕ) → (i ≡ 16 * k + 2 → ⊥) → (i ≡ 16 * k + 3 → ⊥) → (i ≡ 16 * k + 5 → ⊥) → (i ≡ 16 * bucket_of room s + 7 → ⊥)
      → get_or last i 0 ≡ get_or work i 0

-- each node has its signature, and the nodes are in their buckets
pub record SignatureStore (work : List ℕ) (g : Graph) : Type 0 where
  pub words :
      (k : ℕ) → k < g.nodes → (p : ℕ) → p < 64
      → bit (word_at work k 2) p ≡ pattern_value g.free (pairs_of work g) (2 * k) p
  pub chained : Chained work g.room g.nodes

-- both operands of each gate are earlier nodes
pub record Ordered (n : ℕ) (gs : List Pair) : Type 0 where
  pub left : (i : ℕ) → i < length gs → node_of (pair_at gs i).left < n + 1 + i
  pub right : (i : ℕ) → i < length gs → node_of (pair_at gs i).right < n + 1 + i

-- the graph without its last node
abbrev pub one_less : Graph → Graph
one_less g = record { free = g.free; nodes = g.nodes - 1; room = g.room }

-- the last node is a gate whose operands are earlier nodes, the nodes before it have their signatures, and s is to be its signature
pub record Unsigned (work : List ℕ) (g : Graph) (s : ℕ) : Type 0 where
  pub gate : g.free + 1 < g.nodes
  pub store : SignatureStore work (one_less g)
  pub left : node_of (field work (g.nodes - 1) 0) < g.nodes - 1
  pub right : node_of (field work (g.nodes - 1) 1) < g.nodes - 1
  pub bits :
      (p : ℕ) → p < 64
      → bit s p
      ≡ (pattern_value g.free (pairs_of work (one_less g)) (field work (g.nodes - 1) 0) p
      && pattern_value g.free (pairs_of work (one_less g)) (field work (g.nodes - 1) 1) p)

-- all nodes have their signatures, and no word but 2, 3, 5 and 7 of the records was changed
pub record Signed (work last : List ℕ) (g : Graph) : Type 0 where
  pub store : SignatureStore last g
  pub kept : Kept signature_word work last
  pub beyond : (i : ℕ) → 16 * g.room ≤ i → get_or last i 0 ≡ get_or work i 0

-- the last node has its signature s and is the last node of its bucket; so all nodes have their signatures
pub record SignedLast (work last : List ℕ) (g : Graph) (s : ℕ) : Type 0 where
  pub store : SignatureStore last g
  pub kept : Kept signature_word work last
  pub linked : Linked work last g.room (g.nodes - 1) s
