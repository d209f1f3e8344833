-- States as words. Assumes nothing.
use Rattle.std.specs.Prelude.{List, ℕ, zero, suc, ◌+◌, ◌*◌, ◌/◌, ◌%◌, get_or}

-- the number whose words are the n from `at` on, 32 bits each, the lowest first
unfoldable pub number_at : List ℕ → ℕ → ℕ → ℕ
number_at m at zero = 0
number_at m at (suc n) = get_or m at 0 + 4294967296 * number_at m (at + 1) n

-- the hash of a number of n words
unfoldable pub hashed : ℕ → ℕ → ℕ
hashed zero s = 0
hashed (suc n) s = (s % 4294967296 + hashed n (s / 4294967296)) % 4294967296 * 2654435761 % 4294967296

-- the bucket, of `buckets` of them, of a state of w words
unfoldable pub bucket_of : ℕ → ℕ → ℕ → ℕ
bucket_of w buckets s = hashed w s * buckets / 4294967296
