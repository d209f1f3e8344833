-- What is asked of the plan of an attempt. Assumes nothing.
use Rattle.std.specs.Prelude.{◌≡◌, Bool, List, ℕ, ◌≤◌, length}
use Rattle.influence.specs.Part.{Part}
use Rattle.influence.specs.Cone.{kept_below}
use Rattle.diagram_rows.specs.Rows.{plan_of, plan_length}
use Rattle.set_stage.specs.Plans.{Among}

-- a plan of the rows of a circuit's part: the latches are kept ones, and up to four inputs matter
pub record Fit (part : Part) (plan : List ℕ) : Type 0 where
  pub whole : plan_length plan ≤ length plan
  pub among : Among part (plan_of plan).latches
  pub matters : ℕ → Bool
  pub inputs : (plan_of plan).inputs ≡ kept_below matters (length part.circuit.inputs)
  pub vars : length (plan_of plan).latches ≤ 112
  pub few : length (plan_of plan).inputs ≤ 4
