-- Clause 12.17: what the calls leave in bytes is what happens to the bench. Assumes nothing.
use mathlib.Core.Path.{◌≡◌, refl, sym, ap, ◌∙◌, subst}
use mathlib.Core.Bool.{Bool, true, false, cond, ◌&&◌}
use mathlib.Core.List.{List}
use mathlib.Core.Option.{Option, none, some}
use Prim.Native.Nat.{ℕ, ◌+◌, ◌-◌, ◌%◌, ◌^◌, ◌≤◌, ◌<◌}
use native.Mathlib.Omega.{arith}
use lib.Dec.{T, leb, ltb, eqb, leb→le}
use lib.ListN.{length, get_or}
use borrow.Author.Tests.{leb-true}
use Rattle.aiger.specs.Circuit.{Circuit}
use Rattle.aiger.specs.Frames.{free_bits}
use Rattle.aiger.specs.Search.{reaches}
use Rattle.aiger.specs.Operations.{budget_right}
use Rattle.aiger.proofs.Tests.{and_left, and_right}
use Rattle.place_search.specs.Places.{Placed, answers}
use Rattle.place_search.proofs.Answers.{answers-out}
use Rattle.benches.specs.declared.Entry.{Entry}
use Rattle.benches.specs.Bench.{Bench, no_entry, ended, is_free, replaced, fresh, queued, allowed, first_of, after, turn_of, grant_of, entry_after, turned}
use Rattle.bench_bytes.specs.Bytes.{number_at, raw_at, meant, entry_at, bench_place, entry_place, allowance_place, next_place, is_there, bench_in, bench_of, put_queued, put_allowed, put_turned, put_entry, put_number}
use Rattle.bench_bytes.specs.Calls.{placed_at, bytes_after}
use Rattle.benches.specs.Happenings.{Event, Answered, Step}
use Rattle.benches.proofs.Entries.{free-below, waiting-stage}
use Rattle.bench_bytes.proofs.Stores.{put-length, number_small}
use Rattle.bench_bytes.proofs.Records.{Fits, entry_length, in_entry, bench_of_parts, bench-queued, bench-turned, bench-allowed, there-in}
use Rattle.benches.proofs.Order.{turn-first}
use Rattle.bench_bytes.proofs.Meant.{Right, right-meant, meant-right, after-right, Told, after-fits, read_fits}

-- a bench with other searches, where these are equal
parts_same : (allowance next n : ℕ) (entry : ℕ → Entry) (e e' : Entry) → e ≡ e'
    → bench_of_parts allowance next (replaced entry n e) ≡ bench_of_parts allowance next (replaced entry n e')
parts_same allowance next n entry e e' q = ap (λ (x : Entry). bench_of_parts allowance next (replaced entry n x)) q

-- the answer tells a place that has eight bytes
told_of : (p : ℕ → Bool) (places lo D : ℕ) (a : Placed) → T (answers p places lo D a) → Told a
told_of p places lo D (Placed.hit x) h = tt
told_of p places lo D Placed.clear h = tt
told_of p places lo D (Placed.spent R) h = (answers-out p places lo D (Placed.spent R) h).1.told

-- the next number of a bench is one of sixteen
pub next_of : (shared : List ℕ) (user : ℕ) → (bench_of shared user).next < 16
unfolding bench_in
next_of shared user = go (is_there shared user)
  where
    go : (t : Bool) → (cond t (bench_in shared user) ended).next < 16
    go true = omega arith
    go false = omega arith

-- a turn that is granted is one of a bench that is there
pub turn-there : (shared : List ℕ) (user n : ℕ) → turn_of (bench_of shared user) ≡ some n → bench_place user + 1024 ≤ length shared
unfolding turn_of
turn-there shared user n e = go (is_there shared user) refl e
  where
    go : (t : Bool) → is_there shared user ≡ t → turn_of (cond t (bench_in shared user) ended) ≡ some n → bench_place user + 1024 ≤ length shared
    go true h e = leb-true (bench_place user + 1024) (length shared) h
    go false h e = absurd (let z : ◌≡◌ {A = ℕ} 0 1 = cc in omega arith)

-- a search that is read and in use is one that bytes may stand for
pub in_right : (bytes : List ℕ) (p : ℕ) → ((entry_at bytes p).stage ≡ 0 → ⊥) → Right (entry_at bytes p)
unfolding entry_at
in_right bytes p f = meant-right (raw_at bytes p) f

pub stage-used : (e e' : Entry) → e ≡ e' → e.stage ≡ 1 → e'.stage ≡ 0 → ⊥
stage-used e e' q one z = let y = ap (λ (x : Entry). x.stage) q in omega arith

pub in-allowance : (shared : List ℕ) (user : ℕ) → (bench_in shared user).allowance ≡ number_at shared (allowance_place user)
unfolding bench_in
in-allowance shared user = refl

turned-length : (shared : List ℕ) (user n amount : ℕ) (e : Entry) → length (put_turned shared user n amount e) ≡ length shared
turned-length shared user n amount e =
    let one = put_entry shared (entry_place user n) e in
    put-length (put_number one (allowance_place user) amount) (next_place user) (after n) ∙ put-length one (allowance_place user) amount
    ∙ entry_length shared (entry_place user n) e

module _ (chosen : Circuit → ℕ → ℕ → ℕ → ℕ → Placed) (shared : List ℕ) (user : ℕ) where
  -- an accepted queue
  pub queue-step : bench_place user + 1024 ≤ length shared → (n b k D : ℕ) → T (is_free (bench_of shared user) n) → T (leb k 255 && budget_right D)
      → b < 18446744073709551616
      → Step chosen (bench_of shared user) (Event.queue n b k D) (bench_of (put_queued shared user n (fresh b k D)) user)
  queue-step there n b k D f h l =
      let bound : k ≤ 255 = leb→le k 255 (and_left (leb k 255) (budget_right D) h) in
      let most = leb→le D 4294967296 (and_right (leb 1 D) (leb D 4294967296) (and_right (leb k 255) (budget_right D) h)) in
      let e = fresh b k D in
      let fits : Fits e =
      record { stage = omega arith; b = l; k = omega arith; budget = omega arith; frame = omega arith; place = omega arith } in
      let right : Right e = record { used = omega arith; stage = omega arith; bound = bound; within = omega arith; budget = most } in
      let s = bench_in shared user in
      let left = put_queued shared user n e in
      let long = entry_length shared (entry_place user n) e in
      let below = free-below (bench_of shared user) n f in
      let same : bench_of left user ≡ queued (bench_of shared user) n b k D =
      there-in left user (omega arith) ∙ bench-queued shared user n e there below fits
      ∙ parts_same s.allowance s.next n s.entry (meant e) e (right-meant e right)
      ∙ ap (λ (x : Bench). queued x n b k D) (sym (there-in shared user there)) in
      subst (Step chosen (bench_of shared user) (Event.queue n b k D)) (sym same) (Step.queues f h)

  -- an accepted allow
  pub allow-step : bench_place user + 1024 ≤ length shared → (amount : ℕ) → T (budget_right amount)
      → Step chosen (bench_of shared user) (Event.allow amount) (bench_of (put_allowed shared user amount) user)
  allow-step there amount h =
      let most = leb→le amount 4294967296 (and_right (leb 1 amount) (leb amount 4294967296) h) in
      let left = put_allowed shared user amount in
      let long = put-length shared (allowance_place user) amount in
      let same : bench_of left user ≡ allowed (bench_of shared user) amount =
      there-in left user (omega arith) ∙ bench-allowed shared user amount there (omega arith)
      ∙ ap (λ (x : Bench). allowed x amount) (sym (there-in shared user there)) in
      subst (Step chosen (bench_of shared user) (Event.allow amount)) (sym same) (Step.allows h)

  -- a turn: the bench s, which stands in the bytes, and what its search answered
  turned-bytes : ((i : ℕ) → get_or shared i 0 < 256) → (s : Bench) → bench_of shared user ≡ s → (n : ℕ) → turn_of s ≡ some n → (a : Placed) → Told a
      → bench_of (bytes_after shared user s n a) user ≡ turned s n (grant_of s n) a
  turned-bytes small s is n t a told =
      let there = turn-there shared user n (ap turn_of is ∙ t) in
      let stands : bench_in shared user ≡ s = sym (there-in shared user there) ∙ is in
      let first = turn-first s (subst (λ (x : Bench). x.next < 16) is (next_of shared user)) n t in
      let reads : s.entry n ≡ entry_at shared (entry_place user n) =
      ap (λ (x : Bench). x.entry n) (sym stands) ∙ in_entry shared user n first.below in
      let stage = waiting-stage (s.entry n) first.passes in
      let fits : Fits (s.entry n) = subst Fits (sym reads) (read_fits shared small (entry_place user n)) in
      let right : Right (s.entry n) = subst Right (sym reads) (in_right shared (entry_place user n) (λ z. stage-used (s.entry n) _ reads stage z)) in
      let g = grant_of s n in
      let e = entry_after (s.entry n) g a in
      let amount = s.allowance - g in
      let e-fits = after-fits (s.entry n) g a right fits told in
      let left = bytes_after shared user s n a in
      let long : length left ≡ length shared = turned-length shared user n amount e in
      let allowance : number_at shared (allowance_place user) ≡ s.allowance =
      sym (in-allowance shared user) ∙ ap (λ (x : Bench). x.allowance) stands in
      let less : amount < 18446744073709551616 = omega (arith, number_small shared small (allowance_place user)) in
      there-in left user (omega arith) ∙ bench-turned shared user n e there first.below e-fits amount less
      ∙ parts_same amount (after n) n (bench_in shared user).entry (meant e) e (right-meant e (after-right (s.entry n) g a right))
      ∙ ap (λ (x : Bench). bench_of_parts amount (after n) (replaced x.entry n e)) stands

  -- a turn that is granted, of any circuit
  pub turn_step : ((i : ℕ) → get_or shared i 0 < 256) → (asked : Circuit) (s : Bench) → bench_of shared user ≡ s → (n : ℕ) → turn_of s ≡ some n
      → Answered chosen asked (s.entry n) (grant_of s n) (placed_at chosen asked s n)
      → Step chosen s (Event.turn asked n (grant_of s n) (placed_at chosen asked s n)) (bench_of (bytes_after shared user s n (placed_at chosen asked s n)) user)
  turn_step small asked s is n t h =
      let a = placed_at chosen asked s n in
      let e = s.entry n in
      let told = told_of (reaches asked e.b e.frame) (2 ^ free_bits asked e.frame) e.place (grant_of s n) a h.permitted in
      subst (Step chosen s (Event.turn asked n (grant_of s n) a)) (sym (turned-bytes small s is n t a told)) (Step.turns t refl h)
