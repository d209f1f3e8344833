-- What the search by layers requires, and a table with more buckets. Assumes nothing.
use Rattle.std.specs.Prelude.{◌≡◌, List, ℕ, ◌+◌, ◌*◌, ◌≤◌, ◌<◌, length}
use Rattle.aiger.specs.Frames.{size}
use Rattle.layout.specs.Words.{word, circuit_in}
use Rattle.states.specs.declared.Table.{Table}
use Rattle.states.specs.Table.{Filled}
use Rattle.influence.specs.Part.{Closed, part_in}
use Rattle.reachable.specs.declared.Stage.{Stage}
use Rattle.reachable.specs.Quota.{quota, Moderate}

-- a search that can be made of the circuit in memory m, where `room` words are lent
pub record StageFits (m : List ℕ) (q : Stage) (room : ℕ) : Type 0 where
  pub bad : q.b < word m 5
  pub bound : q.k ≤ 255
  pub known : q.first ≤ q.k
  pub moderate : Moderate q.limit
  pub words : 16 * size (circuit_in m) q.k ≤ room
  pub units : size (circuit_in m) q.k ≤ 65536

-- the same of the latches that are kept, where some state may be met
pub record Asks (m kept : List ℕ) (q : Stage) (room : ℕ) : Type 0 where
  pub fits : StageFits m q room
  pub some : 0 < quota (part_in m kept) q.first q.limit 0
  pub closed : Closed (part_in m kept) q.b
  pub few : length kept ≤ 1024

-- The table stays as it is, where there are no more than two records a bucket; else it has `most` buckets, and its records are in them.
pub data Regrown (p : Table) (count most : ℕ) (r : List ℕ) : Table → List ℕ → Type 0 where
  same : count ≤ 2 * p.buckets → Regrown p count most r p r
  grown : {r' : List ℕ} → 2 * p.buckets < count → Filled (record { width = p.width; buckets = most }) count r r'
      → Regrown p count most r (record { width = p.width; buckets = most }) r'
