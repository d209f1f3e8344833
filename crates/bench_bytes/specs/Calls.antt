-- Clause 12.17: the calls of a bench, without the test 18 of the user: their tests, what they answer and what they leave of the bytes that
-- users share. Looking at a bench has no other test, and leaves everything. Assumes nothing.
use Rattle.std.specs.Prelude.{◌≡◌, ◌&&◌, List, [], ◌∷◌, ℕ, ◌-◌, leb, length}
use Rattle.std.proofs.Math.Option.{Option, none, some}
use Rattle.aiger.specs.Circuit.{Circuit}
use Rattle.aiger.specs.Frames.{size}
use Rattle.aiger.specs.Load.{Answer}
use Rattle.aiger.specs.Search.{Report}
use Rattle.aiger.specs.Witness.{witness_length}
use Rattle.aiger.specs.Operations.{Test, need, bad_test, budget_right, size_test, Operated}
use Rattle.place_search.specs.Places.{Placed}
use Rattle.place_search.specs.Operation.{place_test}
use Rattle.benches.specs.declared.Entry.{Entry}
use Rattle.benches.specs.Bench.{Bench, is_free, fresh, turn_of, grant_of, entry_after}
use Rattle.bench_bytes.specs.Bytes.{is_there, bench_of, put_queued, put_allowed, put_turned}

-- ---- queue

-- Clause 12.17: before the circuit is looked at, 18 where the user's bench is not there, and then 20 where the number is above 15 or in use
abbrev pub queue_first : List ℕ → ℕ → ℕ → List Test
queue_first shared user n = need 18 (is_there shared user) ∷ need 20 (is_free (bench_of shared user) n) ∷ []

-- Clause 12.17: after 9 the tests 10 and 11, and 12 by the size alone
abbrev pub queue_tests : ℕ → ℕ → ℕ → Circuit → List Test
queue_tests b k D c = bad_test c b ∷ need 11 (leb k 255 && budget_right D) ∷ need 12 (leb (size c k) 65536) ∷ []

abbrev pub QueueEffect : ℕ → ℕ → ℕ → ℕ → ℕ → List ℕ → Circuit → Unit {0} → List ℕ → Type 0
QueueEffect user n b k D shared c a left = left ≡ put_queued shared user n (fresh b k D)

abbrev pub Queued : List ℕ → ℕ → ℕ → ℕ → ℕ → ℕ → List ℕ → Answer (Unit {0}) → List ℕ → Type 0
Queued m user n b k D shared a shared' = Operated m (queue_tests b k D) shared (QueueEffect user n b k D shared) a shared'

-- ---- allow

-- Clause 12.17: 18 where the user's bench is not there, and then 11; no circuit is needed
abbrev pub allow_first : List ℕ → ℕ → ℕ → List Test
allow_first shared user amount = need 18 (is_there shared user) ∷ need 11 (budget_right amount) ∷ []

abbrev pub Allowed : ℕ → ℕ → List ℕ → List ℕ → Type 0
Allowed user amount shared shared' = shared' ≡ put_allowed shared user amount

-- ---- turn

-- a turn is idle, or has a number and a grant, and answers what the search from a place does
pub data TurnAnswer : Type 0 where
  idle : TurnAnswer
  turn : (n grant : ℕ) → Report → TurnAnswer

-- Clause 12.17: the tests of a search whose turn it is, after 9: 10 and 19, and 12 and 13 for its bound, whatever its frame. The circuit
-- `asked` has the free bits: they differ under pins alone
abbrev pub entry_tests : Circuit → Circuit → Entry → ℕ → ℕ → List Test
entry_tests asked c e room len =
    bad_test c e.b ∷ place_test asked e.frame e.place ∷ size_test c e.k room
    ∷ need 13 (leb (witness_length c e.b e.k) len) ∷ []

-- an idle turn has none
abbrev pub tests_at : Circuit → Circuit → Bench → ℕ → ℕ → Option ℕ → List Test
tests_at asked c s room len none = []
tests_at asked c s room len (some n) = entry_tests asked c (s.entry n) room len

abbrev pub turn_tests : Circuit → Circuit → Bench → ℕ → ℕ → List Test
turn_tests asked c s room len = tests_at asked c s room len (turn_of s)

-- the answer of the search of number n: a function of the circuit that is asked, b, frame, place and grant
abbrev pub placed_at : (Circuit → ℕ → ℕ → ℕ → ℕ → Placed) → Circuit → Bench → ℕ → Placed
placed_at chosen asked s n = chosen asked (s.entry n).b (s.entry n).frame (s.entry n).place (grant_of s n)

-- the bytes after a turn of number n
abbrev pub bytes_after : List ℕ → ℕ → Bench → ℕ → Placed → List ℕ
bytes_after shared user s n a = put_turned shared user n (s.allowance - grant_of s n) (entry_after (s.entry n) (grant_of s n) a)

-- what a turn answers and leaves of working memory, output and shared bytes. `effect` is that of a search of one frame from a place, by b,
-- frame, place and budget
pub data TurnEffect (chosen : Circuit → ℕ → ℕ → ℕ → ℕ → Placed) (asked : Circuit → Circuit)
    (effect : ℕ → ℕ → ℕ → ℕ → Circuit → Report → List ℕ × List ℕ → Type 0) (user : ℕ) (w out shared : List ℕ) (c : Circuit)
    : TurnAnswer → List ℕ × List ℕ × List ℕ → Type 0 where
  idles : turn_of (bench_of shared user) ≡ none → TurnEffect chosen asked effect user w out shared c TurnAnswer.idle (w, out, shared)
  grants : {n : ℕ} {r : Report} {w' out' : List ℕ} → (let s = bench_of shared user in turn_of s ≡ some n)
      → (let s = bench_of shared user in effect (s.entry n).b (s.entry n).frame (s.entry n).place (grant_of s n) c r (w', out'))
      → TurnEffect chosen asked effect user w out shared c (TurnAnswer.turn n (grant_of (bench_of shared user) n) r)
      (w', out', bytes_after shared user (bench_of shared user) n (placed_at chosen (asked c) (bench_of shared user) n))

abbrev pub TurnTaken : (Circuit → ℕ → ℕ → ℕ → ℕ → Placed) → (Circuit → Circuit)
    → (ℕ → ℕ → ℕ → ℕ → List ℕ → Circuit → Report → List ℕ × List ℕ → Type 0)
    → List ℕ → ℕ → List ℕ → List ℕ → List ℕ → Answer TurnAnswer → List ℕ × List ℕ × List ℕ → Type 0
TurnTaken chosen asked effect m user w out shared a left =
    Operated m (λ c. turn_tests (asked c) c (bench_of shared user) (length w) (length out)) (w, out, shared)
    (TurnEffect chosen asked (λ b t place D. effect b t place D out) user w out shared) a left
