-- The search at a depth as an operation: its tests, what it answers and what it leaves. Clause 12.15. Assumes nothing.
use Rattle.std.specs.Prelude.{◌≡◌, Bool, ◌&&◌, List, [], ◌∷◌, ℕ, ◌+◌, T, leb, length}
use Rattle.aiger.specs.Circuit.{Circuit}
use Rattle.aiger.specs.Frames.{Space, space}
use Rattle.aiger.specs.Load.{Answer}
use Rattle.aiger.specs.Witness.{witness_length}
use Rattle.aiger.specs.Operations.{Test, need, bad_test, budget_right, size_test, front, Operated}
use Rattle.never_search.specs.Runs.{freed}
use Rattle.never_search.specs.Depth.{Verdict, depth_question, permitted_at, witness_at}

-- Clause 12.15: the tests 10 to 13. The depth is at most 254; size and output are those of bound k+1, and every latch counts as free in the
-- size. Working memory has `room` words and the output `len` bytes
abbrev pub never_tests : Circuit → ℕ → ℕ → ℕ → ℕ → ℕ → List Test
never_tests c b k D room len =
    bad_test c b ∷ need 11 (leb k 254 && budget_right D) ∷ size_test (freed c) (k + 1) room
    ∷ need 13 (leb (witness_length c b (k + 1)) len) ∷ []

-- Clause 12.15: found and open leave their witness at the front, never and spent leave every byte
abbrev pub shown_at : Circuit → Space → ℕ → ℕ → Verdict → List ℕ → List ℕ
shown_at c s b k (Verdict.found t) out = front (witness_at c s b k t) out
shown_at c s b k (Verdict.never j) out = out
shown_at c s b k (Verdict.opened j) out = front (witness_at c s b k (k + 1)) out
shown_at c s b k (Verdict.spent t R) out = out

-- the length of the witness, 0 where there is none
abbrev pub length_at : Circuit → ℕ → ℕ → Verdict → ℕ
length_at c b k (Verdict.found t) = witness_length c b t
length_at c b k (Verdict.never j) = 0
length_at c b k (Verdict.opened j) = witness_length c b (k + 1)
length_at c b k (Verdict.spent t R) = 0

-- what is reported: the verdict, and the length of the witness
pub record NeverReport : Type 0 where
  pub verdict : Verdict
  pub length : ℕ

-- Clause 12.15: which of the permitted answers is given is a function of the circuit, b, k and D alone. Working memory and output are
-- lent to be written; what working memory holds after is not promised
pub record NeverEffect (chosen : Circuit → ℕ → ℕ → ℕ → Verdict) (b k D : ℕ) (out : List ℕ)
    (c : Circuit) (r : NeverReport) (left : List ℕ × List ℕ) : Type 0 where
  pub chose : r.verdict ≡ chosen c b k D
  pub allowed : T (permitted_at (depth_question c (space c) b k) k D r.verdict)
  pub measured : r.length ≡ length_at c b k r.verdict
  pub shows : left.1 ≡ shown_at c (space c) b k r.verdict out

abbrev pub NeverSearched : (Circuit → ℕ → ℕ → ℕ → Verdict) → List ℕ → ℕ → ℕ → ℕ → List ℕ → List ℕ → Answer NeverReport
    → List ℕ → List ℕ → Type 0
NeverSearched chosen m b k D w out a w' out' =
    Operated m (λ c. never_tests c b k D (length w) (length out)) (w, out) (NeverEffect chosen b k D out) a (w', out')
