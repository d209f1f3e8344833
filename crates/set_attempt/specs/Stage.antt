-- The stage of sets of states for a circuit: when it tries at all, its plans, and its room. Assumes nothing.
use Rattle.std.specs.Prelude.{Bool, ◌&&◌, List, ℕ, ◌*◌, leb, length, replicate}
use Rattle.std.proofs.lemmas.List.Edits.{sets}
use Rattle.aiger.specs.Circuit.{Circuit}
use Rattle.aiger.specs.Frames.{size}
use Rattle.layout.specs.Order.{depth_first}
use Rattle.influence.specs.Part.{Part}
use Rattle.influence.specs.Cone.{marks}
use Rattle.row_plans.specs.Plans.{inputs_of, planned, plan_words}
use Rattle.stages.specs.Endings.{Endings}
use Rattle.set_attempt.specs.Attempt.{Trial, sets_ending}

-- the plan of bad line b with the latches that are kept in the order `which`, in words
abbrev pub plan_in : Part → ℕ → ℕ → List ℕ
plan_in part b which =
    sets (replicate 3191 0) 0 (plan_words (planned part.circuit (marks part.circuit b) (depth_first part.circuit) which part.kept))

-- up to 112 latches are kept, up to four inputs matter, and the first frame is large enough
abbrev pub may_try : Part → ℕ → ℕ → Bool
may_try part b first =
    leb (length part.kept) 112 && (leb (length (inputs_of part.circuit (marks part.circuit b))) 4 && leb 1024 (size part.circuit first))

-- the diagram has 16 words for each unit of the first frame's size
abbrev pub trial_of : Part → ℕ → (share : ℕ) → Trial
trial_of part b share =
    record { may = may_try part b; plans = plan_in part b; words = λ first. 16 * size part.circuit first; looks = share }

-- the endings of the stage with a share of looks for each attempt
abbrev pub stage_ending : Part → ℕ → (share : ℕ) → Endings
stage_ending part b share = sets_ending part.circuit b (trial_of part b share)
