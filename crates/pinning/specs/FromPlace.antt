-- Clauses 12.7 and 12.11: the search from a place under pins. Assumes nothing.
use Rattle.std.specs.Prelude.{◌≡◌, List, ℕ, T, length}
use Rattle.aiger.specs.Circuit.{Circuit}
use Rattle.aiger.specs.Frames.{run_in}
use Rattle.aiger.specs.Load.{Answer}
use Rattle.aiger.specs.Search.{Report}
use Rattle.aiger.specs.Witness.{witness}
use Rattle.aiger.specs.Operations.{Operated}
use Rattle.pins.specs.Pins.{pinned, pinned_space, pinned_question}
use Rattle.place_search.specs.Places.{Placed, answers}
use Rattle.place_search.specs.Operation.{place_tests, report_of, shown_at}

-- the witness of the sequence at place x among those that obey the pins
abbrev pub pinned_text_at : Circuit → (ℕ → ℕ) → ℕ → ℕ → ℕ → List ℕ
pinned_text_at c q b t x = witness b (run_in (pinned_space c q) t x)

-- the answer may be given of the sequences that obey the pins, and is a function of circuit, pins, b, frame, place and D
pub record PinnedPlaceEffect (chosen : Circuit → ℕ → ℕ → ℕ → ℕ → Placed) (q : ℕ → ℕ) (b t place D : ℕ) (out : List ℕ)
    (c : Circuit) (r : Report) (left : List ℕ × List ℕ) : Type 0 where
  pub chose : r ≡ report_of c b t (chosen (pinned c q) b t place D)
  pub allowed : T (answers ((pinned_question c q b).hitting t) ((pinned_question c q b).places t) place D (chosen (pinned c q) b t place D))
  pub shows : left.1 ≡ shown_at (pinned_text_at c q b t) (chosen (pinned c q) b t place D) out

-- the starting place is one of the sequences that obey the pins; size and output needed are those of the circuit itself
abbrev pub PinnedSearchedFrom : (Circuit → ℕ → ℕ → ℕ → ℕ → Placed) → List ℕ → (ℕ → ℕ) → ℕ → ℕ → ℕ → ℕ → List ℕ → List ℕ → Answer Report
    → List ℕ × List ℕ → Type 0
PinnedSearchedFrom chosen m q b t place D w out a left =
    Operated m (λ c. place_tests (pinned c q) c b t place D (length w) (length out)) (w, out) (PinnedPlaceEffect chosen q b t place D out) a left
