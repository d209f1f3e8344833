-- The room that the table of a plan takes. Assumes nothing.
use Rattle.std.specs.Prelude.{List, ℕ, ◌+◌, ◌*◌, ◌^◌, ◌≤◌, length}
use Rattle.layout.specs.Words.{word}
use Rattle.diagram_rows.specs.Rows.{plan_length}

-- a plan that stands in its words as a whole, with up to 256 latches and four inputs, has room for its table in so many words
pub record TableRoom (plan : List ℕ) (words : ℕ) : Type 0 where
  pub whole : plan_length plan ≤ length plan
  pub vars : word plan 0 ≤ 256
  pub inputs : word plan 1 ≤ 4
  pub room : 259 + 2 ^ word plan 1 * (word plan 0 + 2) ≤ words
