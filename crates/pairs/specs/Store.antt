-- Gates in buckets by their operands. Assumes nothing.
use Rattle.std.specs.Prelude.{◌≡◌, Bool, ◌&&◌, List, [], ◌∷◌, ◌++◌, ℕ, ◌+◌, ◌*◌, ◌≤◌, ◌<◌, leb, eqb, length, get_or}
use Rattle.nodes.specs.Store.{field, pairs_of, Sized, one_more}
use Rattle.nodes.specs.Last.{last_before}
use Rattle.nodes.specs.declared.Graph.{Graph}
use Rattle.pairs.specs.Bucket.{bucket_of}

-- node k has these operands
unfoldable pub has_pair : List ℕ → ℕ → ℕ → ℕ → Bool
has_pair work left right k = eqb (field work k 0) left && eqb (field work k 1) right

-- node k is a gate with these operands
unfoldable pub is_pair : List ℕ → Graph → ℕ → ℕ → ℕ → Bool
is_pair work g left right k = leb (g.free + 1) k && has_pair work left right k

-- the bucket of node k
unfoldable pub bucket_at : List ℕ → Graph → ℕ → ℕ
bucket_at work g k = bucket_of g.room (field work k 0) (field work k 1)

-- node k is a gate in bucket h
unfoldable pub in_bucket : List ℕ → Graph → ℕ → ℕ → Bool
in_bucket work g h k = leb (g.free + 1) k && eqb (bucket_at work g k) h

-- word 6 of record h is one more than the last node of bucket h, or 0; word 4 of a gate is one more than the node before it in its
-- bucket, or 0
pub record PairStore (work : List ℕ) (g : Graph) : Type 0 where
  pub heads : (h : ℕ) → h < g.room → field work h 6 ≡ last_before (in_bucket work g h) g.nodes
  pub links : (k : ℕ) → g.free + 1 ≤ k → k < g.nodes → field work k 4 ≡ last_before (in_bucket work g (bucket_at work g k)) k

-- where a pair may be looked for
pub record Chained (work : List ℕ) (g : Graph) : Type 0 where
  pub sized : Sized g (length work)
  pub store : PairStore work g

-- a graph without gates that fits the memory
pub record Empty (work : List ℕ) (g : Graph) : Type 0 where
  pub sized : Sized g (length work)
  pub empty : g.nodes ≡ g.free + 1

-- no bucket has a gate, and no word was changed but word 6 of the records
pub record Started (work last : List ℕ) (g : Graph) : Type 0 where
  pub store : PairStore last g
  pub others : (i : ℕ) → ((h : ℕ) → h < g.room → i ≡ 16 * h + 6 → ⊥) → get_or last i 0 ≡ get_or work i 0

-- where a pair may be added
pub record Room (work : List ℕ) (g : Graph) : Type 0 where
  pub sized : Sized g (length work)
  pub store : PairStore work g
  pub room : g.nodes < g.room

-- the gate was added, and no word was changed but words 0, 1 and 4 of its record and word 6 of its bucket's record
pub record Appended (work last : List ℕ) (g : Graph) (left right : ℕ) : Type 0 where
  pub pairs : pairs_of last (one_more g) ≡ pairs_of work g ++ (record { left = left; right = right } ∷ [])
  pub store : PairStore last (one_more g)
  pub others :
      (i : ℕ) → (i ≡ 16 * g.nodes → ⊥) → (i ≡ 16 * g.nodes + 1 → ⊥) → (i ≡ 16 * g.nodes + 4 → ⊥)
      → (i ≡ 16 * bucket_of g.room left right + 6 → ⊥)
      → get_or last i 0 ≡ get_or work i 0
