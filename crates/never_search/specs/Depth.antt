-- What a search at depth k may answer. Its frames 0 to k are those of the plain search, and its frame k+1 is the second question. Clause
-- 12.15. Assumes nothing.
use Rattle.std.specs.Prelude.{Bool, cond, ◌&&◌, List, [], ℕ, ◌+◌, ◌^◌, leb, eqb}
use Rattle.std.proofs.Math.Option.{Option}
use Rattle.aiger.specs.Circuit.{Circuit}
use Rattle.aiger.specs.Frames.{Space, run_in, bits_in}
use Rattle.aiger.specs.Search.{Question, Outcome, reaches_in, permitted_of, tells, first_at}
use Rattle.aiger.specs.Witness.{witness}
use Rattle.never_search.specs.Runs.{freed_space, reaches_alone}

-- the space of the sequences of frame t, where the depth is k: past the depth every latch is free
abbrev pub space_at : Circuit → Space → ℕ → ℕ → Space
space_at c s k t = cond (leb t k) s (freed_space c s)

-- Clause 12.15: what is asked at depth k among the sequences of space s: whether bad line b is hit at a frame up to k, and past the depth
-- whether a run from any latch values hits in its last frame alone
abbrev pub depth_question : Circuit → Space → ℕ → ℕ → Question
depth_question c s b k =
    record {
      places = λ t. 2 ^ bits_in (space_at c s k t) t;
      hitting = λ t x. cond (leb t k) (reaches_in s c b t x) (reaches_alone (freed_space c s) c b t x);
    }

-- what is answered: found t, never k, open k, or spent t with the place R that was reached; t is k+1 where the second question is spent
pub data Verdict : Type 0 where
  found : ℕ → Verdict
  never : ℕ → Verdict
  opened : ℕ → Verdict
  spent : ℕ → ℕ → Verdict

-- Clause 12.15: what may be answered to question q at depth k with budget D:
-- - found t, where t is the first frame with a hit, and not past the depth;
-- - never k, where no frame up to k+1 has a hit: neither the plain frames nor the second question;
-- - open k, where frame k+1 is the first with a hit;
-- - spent t, where no frame before t has a hit, frame t has more than D places, its first D do not hit, and R may be told of it
unfoldable pub permitted_at : Question → ℕ → ℕ → Verdict → Bool
permitted_at q k D (Verdict.found t) = leb t k && permitted_of q (k + 1) D (Outcome.found t)
permitted_at q k D (Verdict.never j) = eqb j k && permitted_of q (k + 1) D (Outcome.none (k + 1))
permitted_at q k D (Verdict.opened j) = eqb j k && permitted_of q (k + 1) D (Outcome.found (k + 1))
permitted_at q k D (Verdict.spent t R) = permitted_of q (k + 1) D (Outcome.spent t) && tells (q.hitting t) (q.places t) 0 D R

-- Clause 12.15: the witness of the first hit of frame t
unfoldable pub witness_at : Circuit → Space → ℕ → ℕ → ℕ → List ℕ
witness_at c s b k t =
    elim (first_at (depth_question c s b k) t) [ Option.some x ↦ witness b (run_in (space_at c s k t) t x) | Option.none ↦ [] ]
