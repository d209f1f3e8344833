-- Clause 12.17: the bytes of a bench, among those that users share. Numbers have eight bytes, the lowest first. A byte that is not there
-- is 0, and a store that has no place changes nothing. Any contents mean something. Assumes nothing.
use Rattle.std.specs.Prelude.{Bool, cond, ◌&&◌, List, map, ℕ, ◌+◌, ◌*◌, ◌/◌, ◌%◌, leb, ltb, length, get_or, set}
use Rattle.aiger.specs.Lists.{upto}
use Rattle.benches.specs.declared.Entry.{Entry}
use Rattle.benches.specs.Bench.{Bench, no_entry, ended, after}

-- ---- numbers

-- four bytes from p on
unfoldable pub half_at : List ℕ → ℕ → ℕ
half_at bytes p = get_or bytes p 0 + 256 * get_or bytes (p + 1) 0 + 65536 * get_or bytes (p + 2) 0 + 16777216 * get_or bytes (p + 3) 0

unfoldable pub number_at : List ℕ → ℕ → ℕ
number_at bytes p = half_at bytes p + 4294967296 * half_at bytes (p + 4)

unfoldable pub put_half : List ℕ → ℕ → ℕ → List ℕ
put_half bytes p x =
    set (set (set (set bytes p (x % 256)) (p + 1) (x / 256 % 256)) (p + 2) (x / 65536 % 256)) (p + 3) (x / 16777216 % 256)

unfoldable pub put_number : List ℕ → ℕ → ℕ → List ℕ
put_number bytes p x = put_half (put_half bytes p (x % 4294967296)) (p + 4) (x / 4294967296)

-- ---- searches

-- six numbers from p on
abbrev pub raw_at : List ℕ → ℕ → Entry
raw_at bytes p =
    record {
      stage = number_at bytes p;
      b = number_at bytes (p + 8);
      k = number_at bytes (p + 16);
      budget = number_at bytes (p + 24);
      frame = number_at bytes (p + 32);
      place = number_at bytes (p + 40);
    }

-- these may stand for a search: stage 1, 2 or 3, a bound that may be queued, a frame up to it, and a budget up to 2 to the 32
abbrev pub is_entry : Entry → Bool
is_entry e = leb 1 e.stage && leb e.stage 3 && leb e.k 255 && leb e.frame e.k && leb e.budget 4294967296

-- all others are a number that is not in use
abbrev pub meant : Entry → Entry
meant e = cond (is_entry e) e no_entry

unfoldable pub entry_at : List ℕ → ℕ → Entry
entry_at bytes p = meant (raw_at bytes p)

unfoldable pub put_entry : List ℕ → ℕ → Entry → List ℕ
put_entry bytes p e =
    put_number
    (put_number
    (put_number
    (put_number (put_number (put_number bytes p e.stage) (p + 8) e.b) (p + 16) e.k)
    (p + 24)
    e.budget)
    (p + 32)
    e.frame)
    (p + 40)
    e.place

-- ---- benches

-- where the 1,024 bytes of a user's bench begin, after the pins of both users: 16 searches, the allowance, and the next number
abbrev pub bench_place : ℕ → ℕ
bench_place user = 512 + 1024 * user

abbrev pub entry_place : ℕ → ℕ → ℕ
entry_place user n = bench_place user + 48 * n

abbrev pub allowance_place : ℕ → ℕ
allowance_place user = bench_place user + 768

abbrev pub next_place : ℕ → ℕ
next_place user = bench_place user + 776

-- the bytes of the user's bench are there
abbrev pub is_there : List ℕ → ℕ → Bool
is_there shared user = leb (bench_place user + 1024) (length shared)

unfoldable pub bench_in : List ℕ → ℕ → Bench
bench_in shared user =
    record {
      allowance = number_at shared (allowance_place user);
      next = number_at shared (next_place user) % 16;
      entry = λ n. cond (ltb n 16) (entry_at shared (entry_place user n)) no_entry;
    }

-- Clause 12.17: the bench of a user. One that is not there as a whole is as one that has ended
abbrev pub bench_of : List ℕ → ℕ → Bench
bench_of shared user = cond (is_there shared user) (bench_in shared user) ended

-- the bytes after a search has got number n, after the allowance is set, and after a turn
abbrev pub put_queued : List ℕ → ℕ → ℕ → Entry → List ℕ
put_queued shared user n e = put_entry shared (entry_place user n) e

abbrev pub put_allowed : List ℕ → ℕ → ℕ → List ℕ
put_allowed shared user amount = put_number shared (allowance_place user) amount

abbrev pub put_turned : List ℕ → ℕ → ℕ → ℕ → Entry → List ℕ
put_turned shared user n allowance e =
    put_number (put_number (put_entry shared (entry_place user n) e) (allowance_place user) allowance) (next_place user) (after n)

-- Clause 12.17: the bytes after the user's bench has ended: 0 in place of it, all others as they were
abbrev pub cleared_byte : ℕ → ℕ → ℕ → ℕ
cleared_byte user i x = cond (leb (bench_place user) i && ltb i (bench_place user + 1024)) 0 x

abbrev pub put_ended : List ℕ → ℕ → List ℕ
put_ended shared user = map (λ i. cleared_byte user i (get_or shared i 0)) (upto (length shared))
