-- What functions over the bytes of a bench answer. Assumes nothing.
use Rattle.std.specs.Prelude.{◌≡◌, List, ℕ, ◌<◌, Option, Some, None}
use Rattle.std.proofs.Math.Option as math
use Rattle.place_search.specs.Places.{Placed}
use Rattle.benches.specs.Bench.{is_waiting, first_of}
use Rattle.bench_bytes.specs.Bytes.{entry_at, entry_place}
use Rattle.bench_record.specs.declared.Outcome.{Outcome}
use Rattle.bench_record.specs.declared.Outcome.TheVariants.{Hit, Clear, Spent}

-- r is x, and below a bound
pub record Below (x bound r : ℕ) : Type 0 where
  pub is : r ≡ x
  pub below : r < bound

-- the number whose turn it is
abbrev pub turn_is : Option ℕ → math.Option ℕ
turn_is None = math.none
turn_is (Some n) = math.some n

-- what the search of a turn answered, where x is the hit that it found
abbrev pub placed_of : Outcome → ℕ → Placed
placed_of Hit x = Placed.hit x
placed_of Clear x = Placed.clear
placed_of (Spent reached) x = Placed.spent reached

-- the first of m numbers, from n on, whose search waits, in bytes that are there
abbrev pub first_in : List ℕ → ℕ → ℕ → ℕ → math.Option ℕ
first_in shared user n m = first_of (λ i. is_waiting (entry_at shared (entry_place user i))) n m
