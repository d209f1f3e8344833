-- The bucket of a signature. Assumes nothing.
use Rattle.std.specs.Prelude.{cond, ℕ, ◌+◌, ◌-◌, ◌*◌, ◌/◌, ◌%◌, ◌^◌}
use Rattle.aiger.specs.Bits.{odd}

-- a signature and its complement have the same normal form
unfoldable pub normal : ℕ → ℕ
normal s = cond (odd s) ((2 ^ 64 - 1) - s) s

-- the halves times two factors, added
unfoldable pub halves : ℕ → ℕ
halves s = s % 2 ^ 32 * 625341585 + s / 2 ^ 32 * 461845907

-- the halves of that, added, times a third factor and divided by 2 to the 20
unfoldable pub scrambled : ℕ → ℕ
scrambled s = (halves s % 2 ^ 32 + halves s / 2 ^ 32) * 1481765933 / 2 ^ 20

-- the bucket of signature s, where there are so many buckets
unfoldable pub bucket_of : ℕ → ℕ → ℕ
bucket_of room s = scrambled (normal s) % room
