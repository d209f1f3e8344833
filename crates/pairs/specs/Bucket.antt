-- The bucket of a pair of operands. Assumes nothing.
use Rattle.std.specs.Prelude.{ℕ, ◌+◌, ◌*◌, ◌/◌, ◌%◌}

-- the operands times two factors, added, modulo 2^32, times the number of buckets, divided by 2^32
unfoldable pub bucket_of : ℕ → ℕ → ℕ → ℕ
bucket_of room left right = (left * 1327217885 + right * 889516853) % 4294967296 * room / 4294967296
