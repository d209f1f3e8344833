-- Edges that are equal in function to a conjunction, and the simulation of blocks of 64 sequences. Assumes nothing.
use Rattle.std.specs.Prelude.{◌≡◌, Bool, ◌&&◌, List, ◌⊎◌, ℕ, ◌+◌, ◌*◌, ◌^◌, ◌≤◌, ◌<◌, length, get_or}
use Rattle.aiger.specs.Bits.{bit}
use Rattle.aiger.specs.Frames.{free_bit}
use Rattle.aiger.specs.Signature.{PatternWord}
use Rattle.nodes.specs.Graph.{node_of, edge_by, Pair, edge_value, InGraph}
use Rattle.nodes.specs.Store.{field, pairs_of, Sized}
use Rattle.nodes.specs.declared.Graph.{Graph}
use Rattle.signatures.specs.Words.{word_at, Kept, simulation_word, search_word}
use Rattle.signatures.specs.Store.{pattern_value, SignatureStore, Ordered}

-- the value of edge e, and of the conjunction of edges a and b, under sequence x
abbrev pub edge_under : ℕ → List Pair → ℕ → ℕ → Bool
edge_under n gs e x = edge_value n gs (free_bit n x) e

abbrev pub both_under : ℕ → List Pair → ℕ → ℕ → ℕ → Bool
both_under n gs a b x = edge_under n gs a x && edge_under n gs b x

-- edge e is equal in function to the conjunction of edges a and b, over all sequences
abbrev pub Conjunction : ℕ → List Pair → ℕ → ℕ → ℕ → Type 0
Conjunction n gs a b e = (x : ℕ) → x < 2 ^ n → edge_under n gs e x ≡ both_under n gs a b x

-- r is one more than an edge that is equal in function to the conjunction of a and b, or 0 where no edge is. An edge is a node or
-- its complement, so that 0 says that no node is equal or opposite in function
pub record Twin (n : ℕ) (gs : List Pair) (a b r : ℕ) : Type 0 where
  pub found : (e : ℕ) → r ≡ e + 1 → InGraph n gs e × Conjunction n gs a b e
  pub none : r ≡ 0 → (e : ℕ) → InGraph n gs e → Conjunction n gs a b e → ⊥

-- where the search for a twin may start
pub record Ready (work : List ℕ) (g : Graph) (a b : ℕ) : Type 0 where
  pub sized : Sized g (length work)
  pub free : g.free ≤ 12
  pub ordered : Ordered g.free (pairs_of work g)
  pub store : SignatureStore work g
  pub left : node_of a < g.nodes
  pub right : node_of b < g.nodes

pub record Searched (work last : List ℕ) (g : Graph) (a b r : ℕ) : Type 0 where
  pub twin : Twin g.free (pairs_of work g) a b r
  pub store : SignatureStore last g
  pub kept : Kept search_word work last

-- ---- simulation

-- bit p of the simulation words of the nodes below m is their value under assignment f
abbrev pub Simulated : ℕ → List Pair → List ℕ → (ℕ → Bool) → ℕ → ℕ → Type 0
Simulated n gs work f p m = (k : ℕ) → k < m → bit (word_at work k 8) p ≡ edge_value n gs f (2 * k)

-- the constant and the free bits have their values in block q
pub record LeavesSet (work last : List ℕ) (n q : ℕ) : Type 0 where
  pub right : (gs : List Pair) (p : ℕ) → p < 64 → Simulated n gs last (free_bit n (q * 64 + p)) p (n + 1)
  pub kept : Kept simulation_word work last

-- where the leaves have their values, all nodes have them at last
pub record Evaluated (work last : List ℕ) (g : Graph) : Type 0 where
  pub right :
      (f : ℕ → Bool) (p : ℕ) → p < 64 → Simulated g.free (pairs_of work g) work f p (g.free + 1)
      → Simulated g.free (pairs_of work g) last f p g.nodes
  pub kept : Kept simulation_word work last

-- the simulation word of gate k is the conjunction of those of its operands
pub record GateSet (work last : List ℕ) (k : ℕ) : Type 0 where
  pub right :
      (p : ℕ) → p < 64
      → bit (word_at last k 8) p
      ≡ (edge_by (λ j. bit (word_at work j 8) p) (field work k 0) && edge_by (λ j. bit (word_at work j 8) p) (field work k 1))
  pub others : (i : ℕ) → (i ≡ 16 * k + 8 → ⊥) → (i ≡ 16 * k + 9 → ⊥) → get_or last i 0 ≡ get_or work i 0

-- what a simulation needs
pub record Simulable (work : List ℕ) (g : Graph) : Type 0 where
  pub sized : Sized g (length work)
  pub ordered : Ordered g.free (pairs_of work g)

-- ---- candidates

-- w is the word of edge e: that of its node in words f and f + 1, or the complement
abbrev pub HasWord : List ℕ → ℕ → ℕ → ℕ → Type 0
HasWord work f w e = (p : ℕ) → p < 64 → bit w p ≡ edge_by (λ k. bit (word_at work k f) p) e

-- r is one more than the edge of node k whose signature is s, where t is that of the node; or 0
pub record Candidate (k t s r : ℕ) : Type 0 where
  pub found : (e : ℕ) → r ≡ e + 1 → (node_of e ≡ k) × ((p : ℕ) → p < 64 → bit s p ≡ edge_by (λ j. bit t p) e)
  pub none : r ≡ 0 → (e : ℕ) → node_of e ≡ k → ((p : ℕ) → p < 64 → bit s p ≡ edge_by (λ j. bit t p) e) → ⊥

-- s is the signature of the conjunction of a and b
abbrev pub Both : List ℕ → Graph → ℕ → ℕ → ℕ → Type 0
Both work g a b s =
    PatternWord (λ p. pattern_value g.free (pairs_of work g) a p && pattern_value g.free (pairs_of work g) b p) s

-- e is one of the first count candidates: word 11 of record i is candidate i
abbrev pub Listed : List ℕ → ℕ → ℕ → Type 0
Listed work count e = (i : ℕ) × (i < count) × (field work i 11 ≡ e)

-- the candidates are at most m, and edges of the first m nodes
pub record Candidates (work : List ℕ) (count m : ℕ) : Type 0 where
  pub few : count ≤ m
  pub nodes : (e : ℕ) → Listed work count e → node_of e < m

-- the edge that New names, if it names one, was put after the first count candidates; r is how many there are now
pub record Pushed (work last : List ℕ) (count : ℕ) (New : ℕ → Type 0) (r : ℕ) : Type 0 where
  pub most : r ≤ count + 1
  pub listed : (e : ℕ) → Listed last r e → Listed work count e ⊎ New e
  pub before : (e : ℕ) → Listed work count e → Listed last r e
  pub new : (e : ℕ) → New e → Listed last r e
  pub others : (i : ℕ) → (i ≡ 16 * count + 11 → ⊥) → get_or last i 0 ≡ get_or work i 0

-- the candidates are the edges whose signature is s
pub record Gathered (work last : List ℕ) (g : Graph) (s count : ℕ) : Type 0 where
  pub few : count ≤ g.nodes
  pub listed : (e : ℕ) → Listed last count e → (node_of e < g.nodes) × HasWord work 2 s e
  pub all : (e : ℕ) → node_of e < g.nodes → HasWord work 2 s e → Listed last count e
  pub kept : Kept search_word work last

-- of the first count candidates those that pass are left
pub record Sifted (work last : List ℕ) (Passes : ℕ → Type 0) (count left : ℕ) : Type 0 where
  pub fewer : left ≤ count
  pub listed : (e : ℕ) → Listed last left e → Listed work count e × Passes e
  pub all : (e : ℕ) → Listed work count e → Passes e → Listed last left e
  pub kept : Kept search_word work last

-- edge e has the values of the conjunction of a and b in block q
abbrev pub InBlock : ℕ → List Pair → ℕ → ℕ → ℕ → ℕ → Type 0
InBlock n gs a b q e = (p : ℕ) → p < 64 → edge_under n gs e (q * 64 + p) ≡ both_under n gs a b (q * 64 + p)

-- block q leaves the candidates that have the values of the conjunction in it
abbrev pub CheckedBlock : List ℕ → List ℕ → Graph → ℕ → ℕ → ℕ → ℕ → ℕ → Type 0
CheckedBlock work last g a b count q left = Sifted work last (InBlock g.free (pairs_of work g) a b q) count left

-- with more than six free bits, the candidates that are equal in function to the conjunction are left, and else all
abbrev pub Checked : List ℕ → List ℕ → Graph → ℕ → ℕ → ℕ → ℕ → Type 0
Checked work last g a b count left = Sifted work last (λ e. 6 < g.free → Conjunction g.free (pairs_of work g) a b e) count left
