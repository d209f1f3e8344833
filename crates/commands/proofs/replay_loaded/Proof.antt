-- `commands::replay_loaded` meets its contract: a line for each answer. Assumes nothing.
use mathlib.Core.Path.{ap}
use Rattle.replay.specs.Answer.{answered}
use Rattle.replies.proofs.Putting.{placed-fronts}
use Rattle.commands.proofs.Answers.{replay-shown}
use borrow.Author.Rules.{rules}
use Rattle.commands.proofs.replay_loaded.Statement.{statement}
use Rattle.commands.proofs.replay_loaded.Tie as tie

returns : tie.Need-returns-in-All
returns c =
    let q = ap answered c.in-All.is in
    replay-shown c.requires.0 c.replay.ensures q (placed-fronts c.put.ensures)

returns-2 : tie.Need-returns-in-No
returns-2 c =
    let q = ap answered c.in-No.is in
    replay-shown c.requires.0 c.replay.ensures q (placed-fronts c.put-in-No.ensures)

returns-3 : tie.Need-returns-in-Mixed
returns-3 c =
    let q = ap answered c.in-Mixed.is in
    replay-shown c.requires.0 c.replay.ensures q (placed-fronts c.put-in-Mixed.ensures)

returns-4 : tie.Need-returns-in-Refused
returns-4 c =
    let q = ap answered c.in-Refused.is in
    replay-shown c.requires.0 c.replay.ensures q c.write_refusal.ensures

pub replay_loaded_spec : {M : Type 1} → statement M
replay_loaded_spec =
    tie.close
    (tie.spec (λ c κs. search rules) (λ c. search rules) (λ c κs. search rules) (λ c. search rules) (λ c κs. search rules) (λ c. search rules) (λ c κs. search rules) (λ c. search rules) (λ c κs. search rules) (λ c. search rules) returns (λ c. search rules) returns-2 (λ c. search rules) returns-3 (λ c. search rules) returns-4)
