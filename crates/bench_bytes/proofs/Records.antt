-- The searches of a bench, its allowance and its next number in bytes, read and stored. Assumes nothing.
use mathlib.Core.Path.{◌≡◌, refl, sym, ap, ◌∙◌, subst}
use mathlib.Core.Bool.{Bool, true, false, cond, ◌&&◌}
use mathlib.Core.List.{List, []}
use Prim.Native.Nat.{ℕ, ◌+◌, ◌*◌, ◌%◌, ◌≤◌, ◌<◌}
use native.Mathlib.Decide.{dec_lt, ℕ_discrete}
use native.Mathlib.Omega.{arith}
use lib.Dec.{ltb, leb}
use lib.ListN.{length, get_or}
use borrow.Author.Tests.{lt-ltb, le-ltb, le-leb}
use Rattle.benches.specs.declared.Entry.{Entry}
use Rattle.benches.specs.Bench.{Bench, no_entry, ended, replaced, after}
use Rattle.bench_bytes.specs.Bytes.{
  half_at,
  number_at,
  put_number,
  raw_at,
  meant,
  entry_at,
  put_entry,
  bench_place,
  entry_place,
  allowance_place,
  next_place,
  is_there,
  bench_in,
  bench_of,
  put_queued,
  put_allowed,
  put_turned,
}
use Rattle.benches.proofs.Entries.{replaced-same, replaced-other}
use Rattle.bench_bytes.proofs.Stores.{put-outside, put-length, number_put, number_same, number-before}

-- the numbers of a search have eight bytes
pub record Fits (e : Entry) : Type 0 where
  pub stage : e.stage < 18446744073709551616
  pub b : e.b < 18446744073709551616
  pub k : e.k < 18446744073709551616
  pub budget : e.budget < 18446744073709551616
  pub frame : e.frame < 18446744073709551616
  pub place : e.place < 18446744073709551616

module _ (bytes : List ℕ) (p : ℕ) (e : Entry) where
  abbrev v1 : List ℕ
  v1 = put_number bytes p e.stage

  abbrev v2 : List ℕ
  v2 = put_number v1 (p + 8) e.b

  abbrev v3 : List ℕ
  v3 = put_number v2 (p + 16) e.k

  abbrev v4 : List ℕ
  v4 = put_number v3 (p + 24) e.budget

  abbrev v5 : List ℕ
  v5 = put_number v4 (p + 32) e.frame

  pub entry-outside : (j : ℕ) → (p ≤ j → j < p + 48 → ⊥) → get_or (put_entry bytes p e) j 0 ≡ get_or bytes j 0
  unfolding put_entry
  entry-outside j f =
      put-outside v5 (p + 40) e.place j (λ a b. f (omega arith) (omega arith))
      ∙ put-outside v4 (p + 32) e.frame j (λ a b. f (omega arith) (omega arith))
      ∙ put-outside v3 (p + 24) e.budget j (λ a b. f (omega arith) (omega arith))
      ∙ put-outside v2 (p + 16) e.k j (λ a b. f (omega arith) (omega arith))
      ∙ put-outside v1 (p + 8) e.b j (λ a b. f (omega arith) (omega arith))
      ∙ put-outside bytes p e.stage j (λ a b. f (omega arith) (omega arith))

  length-1 : length v1 ≡ length bytes
  length-1 = put-length bytes p e.stage

  length-2 : length v2 ≡ length bytes
  length-2 = put-length v1 (p + 8) e.b ∙ length-1

  length-3 : length v3 ≡ length bytes
  length-3 = put-length v2 (p + 16) e.k ∙ length-2

  length-4 : length v4 ≡ length bytes
  length-4 = put-length v3 (p + 24) e.budget ∙ length-3

  length-5 : length v5 ≡ length bytes
  length-5 = put-length v4 (p + 32) e.frame ∙ length-4

  pub entry_length : length (put_entry bytes p e) ≡ length bytes
  unfolding put_entry
  entry_length = put-length v5 (p + 40) e.place ∙ length-5

  -- what was stored is read back, as far as it means a search
  pub entry-put : p + 48 ≤ length bytes → Fits e → entry_at (put_entry bytes p e) p ≡ meant e
  unfolding entry_at put_entry
  entry-put l f =
      let stage =
      number-before v5 (p + 40) e.place p (omega arith) ∙ number-before v4 (p + 32) e.frame p (omega arith)
      ∙ number-before v3 (p + 24) e.budget p (omega arith) ∙ number-before v2 (p + 16) e.k p (omega arith)
      ∙ number-before v1 (p + 8) e.b p (omega arith) ∙ number_put bytes p e.stage (omega arith) f.stage in
      let b =
      number-before v5 (p + 40) e.place (p + 8) (omega arith) ∙ number-before v4 (p + 32) e.frame (p + 8) (omega arith)
      ∙ number-before v3 (p + 24) e.budget (p + 8) (omega arith) ∙ number-before v2 (p + 16) e.k (p + 8) (omega arith)
      ∙ number_put v1 (p + 8) e.b (omega (arith, length-1)) f.b in
      let k =
      number-before v5 (p + 40) e.place (p + 16) (omega arith) ∙ number-before v4 (p + 32) e.frame (p + 16) (omega arith)
      ∙ number-before v3 (p + 24) e.budget (p + 16) (omega arith) ∙ number_put v2 (p + 16) e.k (omega (arith, length-2)) f.k in
      let budget =
      number-before v5 (p + 40) e.place (p + 24) (omega arith) ∙ number-before v4 (p + 32) e.frame (p + 24) (omega arith)
      ∙ number_put v3 (p + 24) e.budget (omega (arith, length-3)) f.budget in
      let frame =
      number-before v5 (p + 40) e.place (p + 32) (omega arith) ∙ number_put v4 (p + 32) e.frame (omega (arith, length-4)) f.frame in
      let place = number_put v5 (p + 40) e.place (omega (arith, length-5)) f.place in
      ap meant (λ i. record { stage = stage i; b = b i; k = k i; budget = budget i; frame = frame i; place = place i })

-- 48 bytes that are the same
pub entry-same : (xs ys : List ℕ) (p : ℕ) → ((j : ℕ) → p ≤ j → j < p + 48 → get_or xs j 0 ≡ get_or ys j 0) → entry_at xs p ≡ entry_at ys p
unfolding entry_at
entry-same xs ys p f =
    let stage = number_same xs ys p (λ j a b. f j (omega arith) (omega arith)) in
    let b = number_same xs ys (p + 8) (λ j a b. f j (omega arith) (omega arith)) in
    let k = number_same xs ys (p + 16) (λ j a b. f j (omega arith) (omega arith)) in
    let budget = number_same xs ys (p + 24) (λ j a b. f j (omega arith) (omega arith)) in
    let frame = number_same xs ys (p + 32) (λ j a b. f j (omega arith) (omega arith)) in
    let place = number_same xs ys (p + 40) (λ j a b. f j (omega arith) (omega arith)) in
    ap meant (λ i. record { stage = stage i; b = b i; k = k i; budget = budget i; frame = frame i; place = place i })

-- ---- the searches of a bench

-- a bench of these parts
abbrev pub bench_of_parts : ℕ → ℕ → (ℕ → Entry) → Bench
bench_of_parts allowance next entry = record { allowance = allowance; next = next; entry = entry }

pub in_entry : (shared : List ℕ) (user n : ℕ) → n < 16 → (bench_in shared user).entry n ≡ entry_at shared (entry_place user n)
unfolding bench_in
in_entry shared user n l = ap (λ (t : Bool). cond t (entry_at shared (entry_place user n)) no_entry) (lt-ltb n 16 l)

pub in-beyond : (shared : List ℕ) (user n : ℕ) → 16 ≤ n → (bench_in shared user).entry n ≡ no_entry
unfolding bench_in
in-beyond shared user n l = ap (λ (t : Bool). cond t (entry_at shared (entry_place user n)) no_entry) (le-ltb n 16 l)

-- searches whose bytes are the same
entries-same : (xs ys : List ℕ) (user n : ℕ)
    → ((j : ℕ) → entry_place user n ≤ j → j < entry_place user n + 48 → n < 16 → get_or xs j 0 ≡ get_or ys j 0)
    → (bench_in xs user).entry n ≡ (bench_in ys user).entry n
entries-same xs ys user n f =
    elim (dec_lt n 16) [
      | yes l ↦ in_entry xs user n l ∙ entry-same xs ys (entry_place user n) (λ j a b. f j a b l) ∙ sym (in_entry ys user n l)
      | no l ↦ in-beyond xs user n (omega arith) ∙ sym (in-beyond ys user n (omega arith))
    ]

-- Clause 12.17: a bench depends on its own bytes alone
pub bench-same : (xs ys : List ℕ) (user : ℕ) → ((j : ℕ) → bench_place user ≤ j → j < bench_place user + 1024 → get_or xs j 0 ≡ get_or ys j 0)
    → bench_in xs user ≡ bench_in ys user
unfolding bench_in
bench-same xs ys user f =
    let allowance = number_same xs ys (allowance_place user) (λ j a b. f j (omega arith) (omega arith)) in
    let next = number_same xs ys (next_place user) (λ j a b. f j (omega arith) (omega arith)) in
    let entry : (n : ℕ) → (bench_in xs user).entry n ≡ (bench_in ys user).entry n =
    λ n. entries-same xs ys user n (λ j a b l. f j (omega arith) (omega arith)) in
    λ i. record { allowance = allowance i; next = next i % 16; entry = λ n. entry n i }

module _ (shared : List ℕ) (user n : ℕ) (e : Entry) (there : bench_place user + 1024 ≤ length shared) (l : n < 16) (f : Fits e) where
  -- a search that is stored replaces the one of its number
  entry-stored : (i : ℕ) → (bench_in (put_entry shared (entry_place user n) e) user).entry i ≡ replaced (bench_in shared user).entry n (meant e) i
  entry-stored i =
      let left = put_entry shared (entry_place user n) e in
      elim (ℕ_discrete i n) [
        | yes q ↦
            let here = in_entry left user n l ∙ entry-put shared (entry_place user n) e (omega arith) f
            ∙ sym (replaced-same (bench_in shared user).entry n (meant e)) in
            subst (λ (j : ℕ). (bench_in left user).entry j ≡ replaced (bench_in shared user).entry n (meant e) j) (sym q) here
        | no q ↦
            entries-same left shared user i (λ j a b m. entry-outside shared (entry_place user n) e j (λ c d. q (omega arith)))
            ∙ sym (replaced-other (bench_in shared user).entry n (meant e) i q)
      ]

  pub bench-queued : bench_in (put_queued shared user n e) user
      ≡ bench_of_parts (bench_in shared user).allowance (bench_in shared user).next (replaced (bench_in shared user).entry n (meant e))
  unfolding bench_in
  bench-queued =
      let left = put_entry shared (entry_place user n) e in
      let allowance = number_same left shared (allowance_place user)
      (λ j a b. entry-outside shared (entry_place user n) e j (λ c d. omega arith)) in
      let next = number_same left shared (next_place user) (λ j a b. entry-outside shared (entry_place user n) e j (λ c d. omega arith)) in
      λ i. record { allowance = allowance i; next = next i % 16; entry = λ m. entry-stored m i }

  pub bench-turned : (amount : ℕ) → amount < 18446744073709551616
      → bench_in (put_turned shared user n amount e) user ≡ bench_of_parts amount (after n) (replaced (bench_in shared user).entry n (meant e))
  unfolding bench_in
  bench-turned amount small =
      let one = put_entry shared (entry_place user n) e in
      let two = put_number one (allowance_place user) amount in
      let three = put_number two (next_place user) (after n) in
      let long = entry_length shared (entry_place user n) e in
      let long' = put-length one (allowance_place user) amount in
      let allowance = number-before two (next_place user) (after n) (allowance_place user) (omega arith)
      ∙ number_put one (allowance_place user) amount (omega arith) small in
      let next = number_put two (next_place user) (after n) (omega arith) (omega arith) in
      let whole : number_at three (next_place user) % 16 ≡ after n = omega (arith, next) in
      let entry : (m : ℕ) → (bench_in three user).entry m ≡ replaced (bench_in shared user).entry n (meant e) m =
      λ m. entries-same three one user m (λ j a b q.
      put-outside two (next_place user) (after n) j (λ c d. omega arith) ∙ put-outside one (allowance_place user) amount j (λ c d. omega arith))
      ∙ entry-stored m in
      λ i. record { allowance = allowance i; next = whole i; entry = λ m. entry m i }

-- the allowance is stored
pub bench-allowed : (shared : List ℕ) (user amount : ℕ) → bench_place user + 1024 ≤ length shared → amount < 18446744073709551616
    → bench_in (put_allowed shared user amount) user ≡ bench_of_parts amount (bench_in shared user).next (bench_in shared user).entry
unfolding bench_in
bench-allowed shared user amount l small =
    let left = put_number shared (allowance_place user) amount in
    let allowance = number_put shared (allowance_place user) amount (omega arith) small in
    let next = number_same left shared (next_place user) (λ j a b. put-outside shared (allowance_place user) amount j (λ c d. omega arith)) in
    let entry : (n : ℕ) → (bench_in left user).entry n ≡ (bench_in shared user).entry n =
    λ n. entries-same left shared user n (λ j a b m. put-outside shared (allowance_place user) amount j (λ c d. omega arith)) in
    λ i. record { allowance = allowance i; next = next i % 16; entry = λ n. entry n i }

-- ---- a bench of zeros has ended

nothing : (p : ℕ) → number_at [] p ≡ 0
unfolding number_at half_at
nothing p = refl

none-at : (p : ℕ) → entry_at [] p ≡ no_entry
unfolding entry_at
none-at p = rw (nothing p)

empty-ended : (user : ℕ) → bench_in [] user ≡ ended
unfolding bench_in
empty-ended user =
    let allowance = nothing (allowance_place user) in
    let next = nothing (next_place user) in
    let entry : (n : ℕ) → (bench_in [] user).entry n ≡ no_entry =
    λ n. elim (dec_lt n 16) [ yes l ↦ in_entry [] user n l ∙ none-at (entry_place user n) | no l ↦ in-beyond [] user n (omega arith) ] in
    λ i. record { allowance = allowance i; next = next i % 16; entry = λ n. entry n i }

-- Clause 12.17: where its bytes are 0, a bench has ended
pub zeros-ended : (shared : List ℕ) (user : ℕ) → ((j : ℕ) → bench_place user ≤ j → j < bench_place user + 1024 → get_or shared j 0 ≡ 0)
    → bench_of shared user ≡ ended
zeros-ended shared user f = go (is_there shared user)
  where
    go : (t : Bool) → cond t (bench_in shared user) ended ≡ ended
    go true = bench-same shared [] user f ∙ empty-ended user
    go false = refl

-- a bench that is there is the one in its bytes
pub there-in : (shared : List ℕ) (user : ℕ) → bench_place user + 1024 ≤ length shared → bench_of shared user ≡ bench_in shared user
there-in shared user l = ap (λ (t : Bool). cond t (bench_in shared user) ended) (le-leb (bench_place user + 1024) (length shared) l)
