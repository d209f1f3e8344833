-- `conflicts::repair` meets its contract. Assumes nothing.
use borrow.Author.Tests.{eq-eqb}
use Rattle.conflicts.specs.Conflicts as Cf
use Rattle.conflicts.proofs.Calls.{repaired-by}
use borrow.Author.Rules.{rules}
use Rattle.conflicts.proofs.repair.Statement.{statement}
use Rattle.conflicts.proofs.repair.Tie as tie

returns : tie.Need-returns-then-t-eq0
unfolding Cf.repaired
returns c = rw (eq-eqb _ _ c.if-t-eq0.true) c.conflict_at_zero.ensures

returns-2 : tie.Need-returns
returns-2 c =
    let s = c.args in rw (← repaired-by s.work.now s.net s.s
    c.if-t-eq0.false
    c.learn-u.ensures.words c.learn-u.ensures.search c.relieve-v.ensures.words
    c.relieve-v.ensures.search) c.alternate.ensures

pub repair_spec : {M : Type 1} → statement M
repair_spec =
    tie.close
    (tie.spec (λ c κs. search rules) (λ c. search rules) returns (λ c κs. search rules) (λ c κs. search rules) (λ c κs. search rules) (λ c. search rules) returns-2)
