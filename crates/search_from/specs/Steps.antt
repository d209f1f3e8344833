-- What the functions of the search from a place require and answer. Assumes nothing.
use Rattle.std.specs.Prelude.{◌≡◌, List, ℕ, ◌^◌, ◌≤◌, T, length}
use Rattle.aiger.specs.Circuit.{Circuit}
use Rattle.aiger.specs.Load.{Answer, gives}
use Rattle.aiger.specs.Frames.{free_bits}
use Rattle.aiger.specs.Search.{Report, reaches}
use Rattle.aiger.specs.Witness.{witness_length}
use Rattle.layout.specs.Words.{circuit_in}
use Rattle.layout.specs.declared.Layout.{Layout}
use Rattle.place_search.specs.Places.{answers}
use Rattle.place_search.specs.Operation.{shown_from, report_of}
use Rattle.place_decision.specs.Reach.{place_chosen}
use Rattle.place_decision.specs.Decided.{PlaceFits}

-- a frame and a starting place that fit, and an output with room for the witness
pub record FromFits (m : List ℕ) (p : Layout) (order : List ℕ) (b t place D : ℕ) (work out : List ℕ) : Type 0 where
  pub place-fits : PlaceFits work m p order b t place D
  pub output : witness_length (circuit_in m) b t ≤ length out

-- the answer is what is chosen, it may be answered, and the output shows it
pub record AnsweredFrom (c : Circuit) (b t place D : ℕ) (out : List ℕ) (a : Answer Report) (out' : List ℕ) : Type 0 where
  pub says : a ≡ gives (report_of c b t (place_chosen c b t place D))
  pub allowed : T (answers (reaches c b t) (2 ^ free_bits c t) place D (place_chosen c b t place D))
  pub shows : out' ≡ shown_from c b t (place_chosen c b t place D) out
