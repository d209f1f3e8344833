-- Values of nodes in working memory, and what the functions do to them. Assumes nothing.
use Rattle.std.specs.Prelude.{◌≡◌, Bool, cond, ◌&&◌, List, ℕ, ◌+◌, ◌-◌, ◌*◌, ◌/◌, ◌^◌, ◌≤◌, ◌<◌, min, T, length, get_or, set}
use Rattle.aiger.specs.Bits.{nonzero, bit}
use Rattle.aiger.specs.Circuit.{var}
use Rattle.aiger.specs.Frames.{value, free_bit}
use Rattle.nodes.specs.Graph.{Pair, edge_value, Built}
use Rattle.nodes.specs.Store.{field, pairs_of, Sized}
use Rattle.nodes.specs.declared.Graph.{Graph}
use Rattle.cone.specs.Cone.{in_cone}
use Rattle.cone.specs.Store.{Marks}
use Rattle.support.specs.Counting.{rank, spread, First}
use Rattle.support.specs.Support.{support, node_value}

-- the value of node v in place 32 h + q of a block
abbrev pub half : List ℕ → ℕ → ℕ → ℕ → Bool
half work h q v = bit (field work v (2 + h)) q

-- no word was changed but words 2 and 3 of records
abbrev pub Kept : List ℕ → List ℕ → Type 0
Kept work last = (v f : ℕ) → f < 16 → (f ≡ 2 → ⊥) → (f ≡ 3 → ⊥) → field last v f ≡ field work v f

-- the gates gs stand in the memory, and the nodes that lead to the root are marked
pub record Net (gs : List Pair) (root : ℕ) (work : List ℕ) (g : Graph) : Type 0 where
  pub sized : Sized g (length work)
  pub pairs : pairs_of work g ≡ gs
  pub built : Built g.free gs
  pub marks : Marks gs work g root
  pub inside : var root < g.nodes

-- so do some gates, with some root
abbrev pub Netlist : List ℕ → Graph → Type 0
Netlist work g = (gs : List Pair) × (root : ℕ) × Net gs root work g

-- where node k may be evaluated: its operands are earlier nodes
pub record Evaluable (work : List ℕ) (k : ℕ) : Type 0 where
  pub held : 16 * k + 16 ≤ length work
  pub left : var (field work k 0) < k
  pub right : var (field work k 1) < k

-- half h of gate k is the conjunction of its operands'; the other words are as before
pub record HalfEvaluated (work last : List ℕ) (k h : ℕ) : Type 0 where
  pub result : (q : ℕ) → q < 32 → half last h q k ≡ (value (half work h q) (field work k 0) && value (half work h q) (field work k 1))
  pub others : (i : ℕ) → (i ≡ 16 * k + (2 + h) → ⊥) → get_or last i 0 ≡ get_or work i 0

-- the same of both halves, if the gate is marked
pub record GateEvaluated (work last : List ℕ) (k : ℕ) : Type 0 where
  pub result : T (nonzero (field work k 10)) → (h q : ℕ) → h < 2 → q < 32
      → half last h q k ≡ (value (half work h q) (field work k 0) && value (half work h q) (field work k 1))
  pub others : (i : ℕ) → (i ≡ 16 * k + 2 → ⊥) → (i ≡ 16 * k + 3 → ⊥) → get_or last i 0 ≡ get_or work i 0

-- the nodes below limit that lead to the root have their values, where place 32 h + q gives free bit j the value f h q j
abbrev pub Simulated : ℕ → List Pair → ℕ → (ℕ → ℕ → ℕ → Bool) → List ℕ → ℕ → Type 0
Simulated n gs root f work limit =
    (v : ℕ) → v < limit → T (in_cone n gs root v) → (h q : ℕ) → h < 2 → q < 32 → half work h q v ≡ node_value n gs (f h q) v

-- where the nodes before `first` have their values, all nodes have them after
pub record GatesEvaluated (work last : List ℕ) (g : Graph) (first : ℕ) : Type 0 where
  pub kept : Kept work last
  pub values : (gs : List Pair) (root : ℕ) → Net gs root work g → (f : ℕ → ℕ → ℕ → Bool)
      → Simulated g.free gs root f work first → Simulated g.free gs root f last g.nodes

-- node v has the values that the word gives
pub record WordPut (work last : List ℕ) (v word : ℕ) : Type 0 where
  pub new : (h q : ℕ) → h < 2 → q < 32 → half last h q v ≡ bit word (32 * h + q)
  pub others : (i : ℕ) → (i ≡ 16 * v + 2 → ⊥) → (i ≡ 16 * v + 3 → ⊥) → get_or last i 0 ≡ get_or work i 0

-- the first n nodes are false in all places
pub record LeavesCleared (work last : List ℕ) (n : ℕ) : Type 0 where
  pub kept : Kept work last
  pub zeros : (v : ℕ) → v < n → (h q : ℕ) → h < 2 → q < 32 → half last h q v ≡ bit 0 (32 * h + q)

-- each slot below count has a node, no two the same
pub record Slotted (words : ℕ) (slots : List ℕ) (count : ℕ) : Type 0 where
  pub held : count ≤ length slots
  pub inside : (k : ℕ) → k < count → 16 * get_or slots k 0 + 16 ≤ words
  pub differ : (k l : ℕ) → k < l → l < count → get_or slots k 0 ≡ get_or slots l 0 → ⊥

-- the nodes of slots from to to - 1 have the values that count up in the block; the other nodes have those of before
pub record SlotsPut (work last slots : List ℕ) (from to block : ℕ) : Type 0 where
  pub kept : Kept work last
  pub new : (k : ℕ) → from ≤ k → k < to → (h q : ℕ) → h < 2 → q < 32 → half last h q (get_or slots k 0) ≡ bit (block * 64 + (32 * h + q)) k
  pub others : (v : ℕ) → ((k : ℕ) → from ≤ k → k < to → get_or slots k 0 ≡ v → ⊥) → (h : ℕ) → h < 2
      → field last v (2 + h) ≡ field work v (2 + h)

-- node v has taken slot r, if its mark is not 0 and there is such a slot
pub record Taken (slots last : List ℕ) (r v mark next : ℕ) : Type 0 where
  pub next-is : next ≡ r + cond (nonzero mark) 1 0
  pub new : T (nonzero mark) → r < 32 → get_or last r 0 ≡ v
  pub others : (k : ℕ) → (k ≡ r → ⊥) → get_or last k 0 ≡ get_or slots k 0

-- where the marked free bits at the positions below from have slots, so have those below to
abbrev pub SlotsTo : List ℕ → Graph → List ℕ → ℕ → Type 0
SlotsTo work g slots i =
    (gs : List Pair) (root : ℕ) → Net gs root work g → (j : ℕ) → j < i → T (support g.free gs root j)
    → rank (support g.free gs root) j < 32
    → get_or slots (rank (support g.free gs root) j) 0 ≡ g.free - j

pub record SlotsFilled (work : List ℕ) (g : Graph) (slots last : List ℕ) (from to r next : ℕ) : Type 0 where
  pub most : next ≤ to
  pub next-is : (gs : List Pair) (root : ℕ) → Net gs root work g → r ≡ rank (support g.free gs root) from
      → next ≡ rank (support g.free gs root) to
  pub slots-are : ((gs : List Pair) (root : ℕ) → Net gs root work g → r ≡ rank (support g.free gs root) from)
      → SlotsTo work g slots from → SlotsTo work g last to

-- node k does not lead to the root, or has no free bit from node low on as an operand
pub record Unused (work : List ℕ) (k low free : ℕ) : Type 0 where
  pub left : T (nonzero (field work k 10)) → low ≤ var (field work k 0) → free < var (field work k 0)
  pub right : T (nonzero (field work k 10)) → low ≤ var (field work k 1) → free < var (field work k 1)

-- no gate before node first uses a free bit from node low on
pub record UsedFrom (work : List ℕ) (g : Graph) (low first : ℕ) : Type 0 where
  pub gates : g.free + 1 ≤ first
  pub most : first ≤ g.nodes
  pub unused : (k : ℕ) → g.free < k → k < first → Unused work k low g.free

-- for each slot below count there is such a node for that of the slot
abbrev pub Firsts : List ℕ → Graph → List ℕ → ℕ → List ℕ → Type 0
Firsts work g slots count firsts = (k : ℕ) → k < count → UsedFrom work g (get_or slots k 0) (get_or firsts k 0)

-- the next block's number differs from the block's in the lowest r + 1 bits alone
pub record Carried (block r : ℕ) : Type 0 where
  pub higher : (block + 1) / 2 ^ (r + 1) ≡ block / 2 ^ (r + 1)
  pub bound : 2 ^ r ≤ block + 1

-- ---- places: numbers whose bits are spread over the support

-- free bit j of place 32 h + q of a block
unfoldable pub place_bit : ℕ → List Pair → ℕ → ℕ → ℕ → ℕ → ℕ → Bool
place_bit n gs root block h q j = free_bit n (spread (support n gs root) n (block * 64 + (32 * h + q))) j

-- the nodes below limit that lead to the root have their values in the block
abbrev pub InBlock : ℕ → List Pair → ℕ → ℕ → List ℕ → ℕ → Type 0
InBlock n gs root block work limit = Simulated n gs root (place_bit n gs root block) work limit

-- the root is true in place y
abbrev pub hit_at : ℕ → List Pair → ℕ → ℕ → Bool
hit_at n gs root y = edge_value n gs (free_bit n (spread (support n gs root) n y)) root

-- the slots have the nodes of the free bits that count: slot k that of bit k of a place, for the lowest 32 bits
pub record SlotsOf (gs : List Pair) (root : ℕ) (g : Graph) (slots : List ℕ) (count : ℕ) : Type 0 where
  pub held : length slots ≡ 32
  pub count-is : count ≡ min (rank (support g.free gs root) g.free) 32
  pub slots-are : (j : ℕ) → j < g.free → T (support g.free gs root j) → rank (support g.free gs root) j < 32
      → get_or slots (rank (support g.free gs root) j) 0 ≡ g.free - j

-- all nodes have their values in the block; r says which of its places hit
pub record Started (work last : List ℕ) (g : Graph) (root block r : ℕ) : Type 0 where
  pub kept : Kept work last
  pub values : InBlock g.free (pairs_of work g) root block last g.nodes
  pub hits : (p : ℕ) → p < 64 → bit r p ≡ hit_at g.free (pairs_of work g) root (block * 64 + p)

-- what the scan of the places requires
pub record Scannable (work : List ℕ) (g : Graph) (root : ℕ) (slots firsts : List ℕ) (count : ℕ) : Type 0 where
  pub net : Net (pairs_of work g) root work g
  pub slots-of : SlotsOf (pairs_of work g) root g slots count
  pub held : length firsts ≡ 32
  pub firsts-of : Firsts work g slots count firsts

-- all nodes have their values in the next block, if they had them in the block; r says which of its places hit
pub record Advanced (work last : List ℕ) (g : Graph) (root block r : ℕ) : Type 0 where
  pub kept : Kept work last
  pub values : InBlock g.free (pairs_of work g) root block work g.nodes
      → InBlock g.free (pairs_of work g) root (block + 1) last g.nodes
  pub hits : InBlock g.free (pairs_of work g) root block work g.nodes
      → (p : ℕ) → p < 64 → bit r p ≡ hit_at g.free (pairs_of work g) root ((block + 1) * 64 + p)

-- where none of the places before the block passes, and the word hits says which of its 64 do, r is the first below total that passes; if
-- none of the block does, there is no place below total after it
abbrev pub FirstIn : ℕ → ℕ → ℕ → ℕ → Type 0
FirstIn block hits total r =
    (passes : ℕ → Bool) → ((p : ℕ) → p < 64 → bit hits p ≡ passes (block * 64 + p)) → ((y : ℕ) → y < 64 * block → T (passes y) → ⊥)
    → (hits ≡ 0 → total ≤ 64 * block + 64) → First passes total r

-- word v - 1 is bit k of y, for the node v of each slot k below count; the other words are as before
pub record BitsPut (work last slots : List ℕ) (count y : ℕ) : Type 0 where
  pub new : (k : ℕ) → k < count → nonzero (get_or last (get_or slots k 0 - 1) 0) ≡ bit y k
  pub others : (j : ℕ) → ((k : ℕ) → k < count → get_or slots k 0 ≡ j + 1 → ⊥) → get_or last j 0 ≡ get_or work j 0
