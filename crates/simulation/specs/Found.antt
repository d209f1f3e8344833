-- What the scan of a graph's places requires and answers. Assumes nothing.
use Rattle.std.specs.Prelude.{◌≡◌, Bool, List, ℕ, ◌-◌, ◌^◌, ◌≤◌, ◌<◌, T, length, get_or}
use Rattle.aiger.specs.Bits.{nonzero}
use Rattle.aiger.specs.Frames.{free_bit}
use Rattle.nodes.specs.Graph.{Pair, edge_value}
use Rattle.nodes.specs.declared.Graph.{Graph}
use Rattle.support.specs.Counting.{rank, spread, passed}
use Rattle.support.specs.Support.{support}
use Rattle.simulation.specs.Store.{hit_at}
use Rattle.simulation.specs.declared.Found.{Found}
use Rattle.simulation.specs.declared.Found.TheVariants.{Hit, Clear, Spent}

-- the root is true in sequence x
abbrev pub root_at : ℕ → List Pair → ℕ → ℕ → Bool
root_at n gs root x = edge_value n gs (free_bit n x) root

-- no sequence below m hits
abbrev pub NoHit : ℕ → List Pair → ℕ → ℕ → Type 0
NoHit n gs root m = (x : ℕ) → x < m → T (root_at n gs root x) → ⊥

-- r free bits count, and their slots; no place below `from` hits
pub record Counted (gs : List Pair) (root : ℕ) (g : Graph) (slots : List ℕ) (from r : ℕ) : Type 0 where
  pub held : length slots ≡ 32
  pub count : r ≡ rank (support g.free gs root) g.free
  pub slots-are : (j : ℕ) → j < g.free → T (support g.free gs root j) → rank (support g.free gs root) j < 32
      → get_or slots (rank (support g.free gs root) j) 0 ≡ g.free - j
  pub none : (y : ℕ) → y < from → T (hit_at g.free gs root y) → ⊥

-- the first hit is sequence x, and the words begin with its free bits
pub record FirstHit (n : ℕ) (gs : List Pair) (root D : ℕ) (work : List ℕ) (x : ℕ) : Type 0 where
  pub below : x < passed (support n gs root) n D
  pub hit : T (root_at n gs root x)
  pub first : NoHit n gs root x
  pub bits : (j : ℕ) → j < n → nonzero (get_or work j 0) ≡ free_bit n x j

-- what a budget of D places of the support finds: the first hit; none in all sequences; or more than D places, and no hit in the sequences
-- that are passed
abbrev pub FoundIs : ℕ → List Pair → ℕ → ℕ → List ℕ → Found → Type 0
FoundIs n gs root D work Hit = (x : ℕ) × FirstHit n gs root D work x
FoundIs n gs root D work Clear = (2 ^ rank (support n gs root) n ≤ D) × NoHit n gs root (2 ^ n)
FoundIs n gs root D work Spent = (D < 2 ^ rank (support n gs root) n) × NoHit n gs root (passed (support n gs root) n D)
