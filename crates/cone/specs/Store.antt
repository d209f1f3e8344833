-- Marks and numbers in word 10 of the records of nodes. Assumes nothing.
use Rattle.std.specs.Prelude.{◌≡◌, cond, ◌&&◌, List, ℕ, ◌+◌, ◌*◌, ◌≤◌, ◌<◌, T, eqb, length, get_or}
use Rattle.aiger.specs.Bits.{nonzero}
use Rattle.nodes.specs.Graph.{node_of, Pair, Built}
use Rattle.nodes.specs.Store.{field, pair_of, pairs_of, Sized}
use Rattle.nodes.specs.declared.Graph.{Graph}
use Rattle.cone.specs.Cone.{operand_of, in_cone, kept_before, number, Numbered}

-- no word was changed but word 10 of the first m records
abbrev pub Others : List ℕ → List ℕ → ℕ → Type 0
Others work last m = (i : ℕ) → ((k : ℕ) → k < m → i ≡ 16 * k + 10 → ⊥) → get_or last i 0 ≡ get_or work i 0

-- the mark of node k is 1 if it leads to the root, else 0
abbrev pub Marks : List Pair → List ℕ → Graph → ℕ → Type 0
Marks gs work g root = (k : ℕ) → k < g.nodes → field work k 10 ≡ cond (in_cone g.free gs root k) 1 0

-- where the cone of an edge may be marked
pub record Markable (work : List ℕ) (g : Graph) (root : ℕ) : Type 0 where
  pub sized : Sized g (length work)
  pub built : Built g.free (pairs_of work g)
  pub inside : node_of root < g.nodes

-- the nodes that lead to the root are marked
pub record ConeMarked (work last : List ℕ) (g : Graph) (root : ℕ) : Type 0 where
  pub marks : Marks (pairs_of work g) last g root
  pub pairs : pairs_of last g ≡ pairs_of work g
  pub others : Others work last g.nodes

-- node top alone is marked
pub record TopMarked (work last : List ℕ) (g : Graph) (top : ℕ) : Type 0 where
  pub marks : (k : ℕ) → k < g.nodes → field last k 10 ≡ cond (eqb k top) 1 0
  pub others : Others work last g.nodes

-- where node k may be passed: its operands are earlier nodes
pub record Passable (work : List ℕ) (k : ℕ) : Type 0 where
  pub held : 16 * k + 16 ≤ length work
  pub left : node_of (field work k 0) < k
  pub right : node_of (field work k 1) < k

-- the nodes of the operands of node k are marked, if it is marked
pub record Passed (work last : List ℕ) (k : ℕ) : Type 0 where
  pub marks : (i : ℕ) → field last i 10 ≡ cond (nonzero (field work k 10) && operand_of (pair_of work k) i) 1 (field work i 10)
  pub others : Others work last k

-- the constant and the free bits have their own numbers
pub record LeavesNumbered (work last : List ℕ) (g : Graph) : Type 0 where
  pub numbers : (k : ℕ) → k ≤ g.free → field last k 10 ≡ k
  pub others : Others work last (g.free + 1)

-- node k has the next number, if it is marked
pub record GateNumbered (work last : List ℕ) (k next r : ℕ) : Type 0 where
  pub count : r ≡ next + cond (nonzero (field work k 10)) 1 0
  pub word : field last k 10 ≡ cond (nonzero (field work k 10)) next 0
  pub others : (i : ℕ) → (i ≡ 16 * k + 10 → ⊥) → get_or last i 0 ≡ get_or work i 0

-- the nodes of the root's cone have their numbers, and so have the constant and the free bits
pub record Assigned (gs : List Pair) (last : List ℕ) (g : Graph) (root kept : ℕ) : Type 0 where
  pub count : kept ≡ kept_before g.free gs root (length gs)
  pub numbers : (k : ℕ) → k < g.nodes → Numbered g.free gs root k → field last k 10 ≡ number g.free gs root k
  pub zeros : (k : ℕ) → g.free < k → k < g.nodes → (T (in_cone g.free gs root k) → ⊥) → field last k 10 ≡ 0

-- the marks are replaced by numbers, for every root whose cone they mark; so many gates are marked
pub record Assignment (work last : List ℕ) (g : Graph) (kept : ℕ) : Type 0 where
  pub assigned : (root : ℕ) → Marks (pairs_of work g) work g root → Assigned (pairs_of work g) last g root kept
  pub pairs : pairs_of last g ≡ pairs_of work g
  pub others : Others work last g.nodes
