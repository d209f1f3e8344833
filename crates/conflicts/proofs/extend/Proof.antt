-- `conflicts::extend` meets its contract. Assumes nothing.
use Rattle.conflicts.proofs.Calls.{extended-by}
use borrow.Author.Rules.{rules}
use Rattle.conflicts.proofs.extend.Statement.{statement}
use Rattle.conflicts.proofs.extend.Tie as tie

returns : tie.Need-returns
returns c =
    let s = c.args in rw
    (← extended-by s.work.now s.net s.s c.settle_level-u.ensures.words
    c.settle_level-u.ensures.search) c.choose.ensures

pub extend_spec : {M : Type 1} → statement M
extend_spec = tie.close (tie.spec (λ c κs. search rules) (λ c κs. search rules) (λ c. search rules) returns)
