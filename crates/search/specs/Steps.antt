-- What the functions of the search require and answer. Assumes nothing.
use Rattle.std.specs.Prelude.{◌≡◌, List, ℕ, ◌*◌, ◌≤◌, ◌<◌, T, length}
use Rattle.aiger.specs.Circuit.{Circuit}
use Rattle.aiger.specs.Load.{Answer, gives}
use Rattle.aiger.specs.Frames.{size, run}
use Rattle.aiger.specs.Witness.{witness, witness_length}
use Rattle.aiger.specs.Search.{Outcome, Report, question, reached_right}
use Rattle.aiger.specs.Operations.{front, shown}
use Rattle.layout.specs.Words.{word, circuit_in}
use Rattle.layout.specs.declared.Layout.{Layout}
use Rattle.frames.specs.Lanes.{Ready}
use Rattle.witness.specs.Writing.{SequenceIn}
use Rattle.place_decision.specs.Reach.{reached_told}
use Rattle.search.specs.Chosen.{outcome_chosen, reached_chosen, chosen, found_report, spent_report}

-- what the search of frames 0 to k requires
pub record SearchFits (m : List ℕ) (p : Layout) (order : List ℕ) (b k D : ℕ) (work out : List ℕ) : Type 0 where
  pub ready : Ready m p order 4097
  pub bad : b < word m 5
  pub bound : k ≤ 255
  pub some : 1 ≤ D
  pub most : D ≤ 4294967296
  pub units : size (circuit_in m) k ≤ 65536
  pub words : 16 * size (circuit_in m) k ≤ length work
  pub room : size (circuit_in m) k ≤ length work
  pub output : witness_length (circuit_in m) b k ≤ length out

-- the answer is found t with the length of its witness, and the witness of each sequence whose free bits stand in `free` is at the front
pub record FoundShown (c : Circuit) (b t : ℕ) (free out : List ℕ) (a : Answer Report) (out' : List ℕ) : Type 0 where
  pub says : a ≡ gives (found_report t (witness_length c b t))
  pub shows : (x : ℕ) → SequenceIn free c t x → out' ≡ front (witness b (run c t x)) out

-- the answer is spent t with the place that is told of frame t, and this may be told
pub record SpentTold (c : Circuit) (b t D : ℕ) (a : Answer Report) : Type 0 where
  pub says : a ≡ gives (spent_report t (reached_told c b t D))
  pub right : T (reached_right (question c b) D (Outcome.spent t) (reached_told c b t D))

-- the answer is what is chosen, the place that it tells may be told, and the output shows it
pub record Answered (c : Circuit) (b k D : ℕ) (out : List ℕ) (a : Answer Report) (out' : List ℕ) : Type 0 where
  pub says : a ≡ gives (chosen c b k D)
  pub told : T (reached_right (question c b) D (outcome_chosen c b k D) (reached_chosen c b k D))
  pub shows : out' ≡ shown c b (outcome_chosen c b k D) out
