-- What a search of one frame from a starting place may answer, and what it tells where it is spent. Sequence x stands at place x, p says
-- which places hit, there are `places` in all, lo is the starting place and D the budget. Assumes nothing.
use Rattle.std.specs.Prelude.{Bool, true, ◌&&◌, ℕ}
use Rattle.aiger.specs.Search.{Decision, decides, tells, Question, Outcome}

-- the first hit at or after the starting place; no hit from there on; or spent, with the place that was reached
pub data Placed : Type 0 where
  hit : ℕ → Placed
  clear : Placed
  spent : ℕ → Placed

-- the answer without the place that was reached
abbrev pub decision_of : Placed → Decision
decision_of (Placed.hit x) = Decision.hit x
decision_of Placed.clear = Decision.clear
decision_of (Placed.spent R) = Decision.spent

-- R of an answer may be told
abbrev pub tells_of : (ℕ → Bool) → ℕ → ℕ → ℕ → Placed → Bool
tells_of p places lo D (Placed.hit x) = true
tells_of p places lo D Placed.clear = true
tells_of p places lo D (Placed.spent R) = tells p places lo D R

-- Clause 12.11: what may be answered from place lo on
unfoldable pub answers : (ℕ → Bool) → ℕ → ℕ → ℕ → Placed → Bool
answers p places lo D a = decides p places lo D (decision_of a) && tells_of p places lo D a

-- the answer is not spent
abbrev pub Unspent : Placed → Type 0
Unspent (Placed.hit x) = Unit {0}
Unspent Placed.clear = Unit {0}
Unspent (Placed.spent R) = ⊥

-- the question about frame t alone
abbrev pub frame_alone : Question → ℕ → Question
frame_alone q t = record { places = λ u. q.places t; hitting = λ u. q.hitting t }

-- the answer as the outcome of a search whose bound is t
abbrev pub outcome_of : ℕ → Placed → Outcome
outcome_of t (Placed.hit x) = Outcome.found t
outcome_of t Placed.clear = Outcome.none t
outcome_of t (Placed.spent R) = Outcome.spent t

-- the place that was reached, 0 where the answer is not spent
abbrev pub reached_of : Placed → ℕ
reached_of (Placed.hit x) = 0
reached_of Placed.clear = 0
reached_of (Placed.spent R) = R
