-- Clause 12.7: search and fold under pins: what they answer, and what they leave. Assumes nothing.
use Rattle.std.specs.Prelude.{◌≡◌, List, ℕ, T, length}
use Rattle.aiger.specs.Circuit.{Circuit}
use Rattle.aiger.specs.Load.{Answer}
use Rattle.aiger.specs.Search.{Outcome, Report, NeverOf, permitted_of, reached_right}
use Rattle.aiger.specs.Operations.{Operated, FoldEffect, front, search_tests, shown_length, fold_tests}
use Rattle.pins.specs.Pins.{pinned, pinned_question, pinned_witness}

-- found leaves the witness of the first hit that obeys the pins at the front; none and spent leave every byte
abbrev pub pinned_shown : Circuit → (ℕ → ℕ) → ℕ → Outcome → List ℕ → List ℕ
pinned_shown c q b (Outcome.found t) out = front (pinned_witness c q b t) out
pinned_shown c q b (Outcome.none k) out = out
pinned_shown c q b (Outcome.spent t) out = out

-- what is reported of a circuit, from what is chosen of the pinned circuit: the witness has the bits of all inputs
abbrev pub pinned_report : Circuit → ℕ → Report → Report
pinned_report c b r =
    record { outcome = r.outcome; length = shown_length c b r.outcome; never = r.never; reached = r.reached }

-- search under the pins q: the outcome is permitted of the sequences that obey them, and is a function of circuit, pins, b, k and D; no
-- frame at all has a hit, where this is told, by a sequence that obeys them; and the place that was reached is one of theirs
pub record PinnedSearchEffect (chosen : Circuit → ℕ → ℕ → ℕ → Report) (q : ℕ → ℕ) (b k D : ℕ) (out : List ℕ)
    (c : Circuit) (o : Report) (left : List ℕ × List ℕ) : Type 0 where
  pub chose : o ≡ pinned_report c b (chosen (pinned c q) b k D)
  pub allowed : T (permitted_of (pinned_question c q b) k D o.outcome)
  pub measured : o.length ≡ shown_length c b o.outcome
  pub never : NeverOf (pinned_question c q b) k o
  pub told : T (reached_right (pinned_question c q b) D o.outcome o.reached)
  pub shows : left.1 ≡ pinned_shown c q b o.outcome out

-- the tests are those of the circuit itself, so that size and output needed do not depend on pins
abbrev pub PinnedSearched : (Circuit → ℕ → ℕ → ℕ → Report) → List ℕ → (ℕ → ℕ) → ℕ → ℕ → ℕ → List ℕ → List ℕ → Answer Report
    → List ℕ × List ℕ → Type 0
PinnedSearched chosen m q b k D w out a left =
    Operated m (λ c. search_tests c b k D (length w) (length out)) (w, out) (PinnedSearchEffect chosen q b k D out) a left

-- fold under the pins q: the folded frame of the pinned circuit
abbrev pub PinnedFoldEffect : (Circuit → ℕ → ℕ → Circuit) → (ℕ → ℕ) → ℕ → ℕ → List ℕ → Circuit → ℕ → List ℕ × List ℕ → Type 0
PinnedFoldEffect chosen q b t out c n left = FoldEffect chosen b t out (pinned c q) n left

abbrev pub PinnedFolded : (Circuit → ℕ → ℕ → Circuit) → List ℕ → (ℕ → ℕ) → ℕ → ℕ → List ℕ → List ℕ → Answer ℕ → List ℕ × List ℕ → Type 0
PinnedFolded chosen m q b t w out a left =
    Operated m (λ c. fold_tests c b t (length w) (length out)) (w, out) (PinnedFoldEffect chosen q b t out) a left
