-- Clause 12.17: the bytes after a turn, by what was read before it. Assumes nothing.
use mathlib.Core.Path.{◌≡◌, sym, ap, ◌∙◌}
use mathlib.Core.List.{List}
use mathlib.Core.Option.{Option, some}
use Prim.Native.Nat.{ℕ, ◌-◌, ◌≤◌, ◌<◌, min}
use native.Mathlib.Omega.{arith}
use Rattle.place_search.specs.Places.{Placed}
use Rattle.benches.specs.declared.Entry.{Entry}
use Rattle.benches.specs.Bench.{Bench, turn_of, grant_of, entry_after}
use Rattle.benches.proofs.Entries.{waiting-stage}
use Rattle.benches.proofs.Order.{turn-first}
use Rattle.bench_bytes.specs.Bytes.{number_at, entry_at, entry_place, allowance_place, bench_in, bench_of, put_turned}
use Rattle.bench_bytes.specs.Calls.{bytes_after}
use Rattle.bench_bytes.proofs.Records.{in_entry, there-in}
use Rattle.bench_bytes.proofs.Meant.{Right}
use Rattle.bench_bytes.proofs.Called.{next_of, turn-there, in_right, stage-used, in-allowance}

module _ (shared : List ℕ) (user n : ℕ) (t : turn_of (bench_of shared user) ≡ some n) where
  -- the number is one of sixteen
  pub turn_below : n < 16
  turn_below = (turn-first (bench_of shared user) (next_of shared user) n t).below

  -- the search whose turn it is
  pub turn-entry : entry_at shared (entry_place user n) ≡ (bench_of shared user).entry n
  turn-entry = sym (ap (λ (s : Bench). s.entry n) (there-in shared user (turn-there shared user n t)) ∙ in_entry shared user n turn_below)

  pub turn-allowance : number_at shared (allowance_place user) ≡ (bench_of shared user).allowance
  turn-allowance = sym (ap (λ (s : Bench). s.allowance) (there-in shared user (turn-there shared user n t)) ∙ in-allowance shared user)

  -- it is one that bytes may stand for
  pub turn-right : Right (entry_at shared (entry_place user n))
  turn-right =
      let s = bench_of shared user in
      let stage = waiting-stage (s.entry n) (turn-first s (next_of shared user) n t).passes in
      in_right shared (entry_place user n) (stage-used (s.entry n) (entry_at shared (entry_place user n)) (sym turn-entry) stage)

  -- what is stored after a turn, from what was read before it
  pub settled : (e e' : Entry) (allowance g : ℕ) (a : Placed) (left : List ℕ) → e ≡ entry_at shared (entry_place user n)
      → allowance ≡ number_at shared (allowance_place user) → g ≡ min 1024 (min e.budget allowance) → e' ≡ entry_after e g a
      → left ≡ put_turned shared user n (allowance - g) e' → left ≡ bytes_after shared user (bench_of shared user) n a
  settled e e' allowance g a left p q r x y =
      let s = bench_of shared user in
      let pe : e ≡ s.entry n = p ∙ turn-entry in
      let pa : allowance ≡ s.allowance = q ∙ turn-allowance in
      let pg : g ≡ grant_of s n = r ∙ (λ i. min 1024 (min (pe i).budget (pa i))) in
      let px : e' ≡ entry_after (s.entry n) (grant_of s n) a = x ∙ (λ i. entry_after (pe i) (pg i) a) in
      y ∙ (λ i. put_turned shared user n (pa i - pg i) (px i))
