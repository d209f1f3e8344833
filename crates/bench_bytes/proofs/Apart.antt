-- Clause 12.17: the calls of a user leave the pins of both users, the other user's bench, and bytes. Assumes nothing.
use mathlib.Core.Path.{◌≡◌, refl, sym, ap, ◌∙◌, subst}
use mathlib.Core.Bool.{Bool, cond}
use mathlib.Core.List.{List}
use Prim.Native.Nat.{ℕ, ◌+◌, ◌*◌, ◌/◌, ◌%◌, ◌≤◌, ◌<◌}
use native.Mathlib.Decide.{dec_lt, ℕ_discrete}
use native.Mathlib.Omega.{arith}
use lib.Dec.{leb}
use lib.ListN.{length, get_or, set}
use lib.Seq.{set_out, get_or-set_same, get_or-set_other}
use Rattle.benches.specs.declared.Entry.{Entry}
use Rattle.benches.specs.Bench.{Bench, ended, after}
use Rattle.bench_bytes.specs.Bytes.{
  put_half,
  put_number,
  put_entry,
  bench_place,
  entry_place,
  allowance_place,
  next_place,
  bench_in,
  bench_of,
  put_queued,
  put_allowed,
  put_turned,
}
use Rattle.bench_bytes.proofs.Stores.{put-outside, put-length}
use Rattle.bench_bytes.proofs.Records.{entry-outside, entry_length, bench-same}

-- as many bytes, and those outside of the user's bench the same
pub record Apart (user : ℕ) (xs ys : List ℕ) : Type 0 where
  pub room : length xs ≡ length ys
  pub outside : (j : ℕ) → (bench_place user ≤ j → j < bench_place user + 1024 → ⊥) → get_or xs j 0 ≡ get_or ys j 0

module _ (shared : List ℕ) (user n : ℕ) (e : Entry) (l : n < 16) where
  pub queued-apart : Apart user (put_queued shared user n e) shared
  queued-apart =
      record {
        room = entry_length shared (entry_place user n) e;
        outside = λ j f. entry-outside shared (entry_place user n) e j (λ a b. f (omega arith) (omega arith));
      }

  pub turned_apart : (amount : ℕ) → Apart user (put_turned shared user n amount e) shared
  turned_apart amount =
      let one = put_entry shared (entry_place user n) e in
      let two = put_number one (allowance_place user) amount in
      record {
        room = put-length two (next_place user) (after n) ∙ put-length one (allowance_place user) amount
            ∙ entry_length shared (entry_place user n) e;
        outside = λ j f.
            put-outside two (next_place user) (after n) j (λ a b. f (omega arith) (omega arith))
            ∙ put-outside one (allowance_place user) amount j (λ a b. f (omega arith) (omega arith))
            ∙ entry-outside shared (entry_place user n) e j (λ a b. f (omega arith) (omega arith));
      }

pub allowed-apart : (shared : List ℕ) (user amount : ℕ) → Apart user (put_allowed shared user amount) shared
allowed-apart shared user amount =
    record {
      room = put-length shared (allowance_place user) amount;
      outside = λ j f. put-outside shared (allowance_place user) amount j (λ a b. f (omega arith) (omega arith));
    }

module _ {user : ℕ} {xs ys : List ℕ} (a : Apart user xs ys) where
  -- the other user's bench is the same
  pub apart-bench : (other : ℕ) → (other ≡ user → ⊥) → bench_of xs other ≡ bench_of ys other
  apart-bench other q =
      ap (λ (n : ℕ). cond (leb (bench_place other + 1024) n) (bench_in xs other) ended) a.room
      ∙ ap (λ (s : Bench). cond (leb (bench_place other + 1024) (length ys)) s ended)
      (bench-same xs ys other (λ j b c. a.outside j (λ d e. q (omega arith))))

  -- and so are all pins
  pub apart-pins : (i : ℕ) → i < 512 → get_or xs i 0 ≡ get_or ys i 0
  apart-pins i l = a.outside i (λ b c. omega arith)

-- ---- bytes stay bytes

pub record Small (bytes : List ℕ) : Type 0 where
  pub byte : (i : ℕ) → get_or bytes i 0 < 256

set-byte : (bytes : List ℕ) (p v : ℕ) → v < 256 → Small bytes → (i : ℕ) → get_or (set bytes p v) i 0 < 256
set-byte bytes p v l f i =
    elim (ℕ_discrete i p) [
      | yes q ↦
          elim (dec_lt p (length bytes)) [
            | yes m ↦ let e = ap (λ (j : ℕ). get_or (set bytes p v) j 0) q ∙ get_or-set_same bytes p v 0 m in omega arith
            | no m ↦ let e = ap (λ (x : List ℕ). get_or x i 0) (set_out bytes p v (omega arith)) in omega (arith, f.byte i)
          ]
      | no q ↦ let e = get_or-set_other bytes p i v 0 q in omega (arith, f.byte i)
    ]

set-small : {bytes : List ℕ} (p v : ℕ) → v < 256 → Small bytes → Small (set bytes p v)
set-small {bytes} p v l f = record { byte = set-byte bytes p v l f }

half-small : (bytes : List ℕ) (p x : ℕ) → Small bytes → Small (put_half bytes p x)
unfolding put_half
half-small bytes p x f =
    set-small (p + 3) (x / 16777216 % 256) (omega arith)
    (set-small (p + 2) (x / 65536 % 256) (omega arith)
    (set-small (p + 1) (x / 256 % 256) (omega arith) (set-small p (x % 256) (omega arith) f)))

pub number-bytes : (bytes : List ℕ) (p x : ℕ) → Small bytes → Small (put_number bytes p x)
unfolding put_number
number-bytes bytes p x f = half-small _ (p + 4) (x / 4294967296) (half-small bytes p (x % 4294967296) f)

pub entry-bytes : (bytes : List ℕ) (p : ℕ) (e : Entry) → Small bytes → Small (put_entry bytes p e)
unfolding put_entry
entry-bytes bytes p e f =
    number-bytes _ (p + 40) e.place
    (number-bytes _ (p + 32) e.frame
    (number-bytes _ (p + 24) e.budget
    (number-bytes _ (p + 16) e.k (number-bytes _ (p + 8) e.b (number-bytes bytes p e.stage f)))))
