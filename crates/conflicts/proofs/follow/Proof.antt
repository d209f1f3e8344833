-- `conflicts::follow` meets its contract. Assumes nothing.
use Rattle.conflicts.proofs.Calls.{followed-by}
use mathlib.Core.Path.{refl}
use borrow.Author.Rules.{rules}
use Rattle.conflicts.proofs.follow.Statement.{statement}
use Rattle.conflicts.proofs.follow.Tie as tie

returns : tie.Need-returns
returns c =
    let s = c.args in rw
    (← followed-by s.work.now s.net s.s c.propagate-u.ensures.words c.propagate-u.ensures.state
    c.work_of.ensures c.counted-o.ensures) (record { words = refl; search = refl })

pub follow_spec : {M : Type 1} → statement M
follow_spec = tie.close (tie.spec (λ c κs. search rules) (λ c κs. search rules) (λ c κs. search rules) (λ c. search rules) returns)
