-- `conflicts::run` meets its contract. Assumes nothing.
use Rattle.conflicts.proofs.Calls.{ran-by}
use mathlib.Core.Path.{refl}
use borrow.Author.Rules.{rules}
use Rattle.conflicts.proofs.run.Statement.{statement}
use Rattle.conflicts.proofs.run.Tie as tie

returns : tie.Need-returns
returns c =
    let s = c.args in rw (← ran-by s.work.now s.net s.effort
    c.prepare.ensures
    c.fill-h.ensures.words c.fill-h.ensures.heap c.initial.ensures
    c.steps-s.ensures.words c.steps-s.ensures.search c.verdict_of.ensures)
    (record { words = refl; verdict = refl })

pub run_spec : {M : Type 1} → statement M
run_spec =
    tie.close
    (tie.spec (λ c κs. search rules) (λ c κs. search rules) (λ c κs. search rules) (λ c κs. search rules) (λ c κs. search rules) (λ c. search rules) returns)
