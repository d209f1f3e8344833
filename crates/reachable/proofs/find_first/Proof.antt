-- `reachable::find_first` meets its contract. Assumes nothing.
use native.Mathlib.Omega.{arith}
use borrow.Author.Rules.{rules}
use Rattle.reachable.proofs.find_first.Statement.{statement}
use Rattle.reachable.proofs.find_first.Tie as tie

ask-frames-requires : tie.Need-ask_frames-requires
ask-frames-requires c κs = (
  c.requires.0,
  (
    c.requires.1,
    omega arith,
  ),
)

same_length : tie.Need-shape_of-records
same_length c = c.ask_frames.auto.records

returns : tie.Need-returns
returns c = c.ask_frames.ensures

pub find_first_spec : {M : Type 1} → statement M
find_first_spec =
    tie.close
    (tie.spec (λ c. search rules) (λ c. search rules) ask-frames-requires same_length returns)
