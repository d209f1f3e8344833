-- `learning::learn` meets its contract. Assumes nothing.
use Rattle.learning.proofs.Calls.{learnt-by}
use borrow.Author.Rules.{rules}
use Rattle.learning.proofs.learn.Statement.{statement}
use Rattle.learning.proofs.learn.Tie as tie

returns : tie.Need-returns
returns c = let s = c.args in rw (← learnt-by s.work.now s.net s.s s.r c.cool-g.ensures.words c.cool-g.ensures.heap c.analyse-d.ensures.words c.analyse-d.ensures.draft c.with_heap.ensures) c.store.ensures

pub learn_spec : {M : Type 1} → statement M
learn_spec =
    tie.close
    (tie.spec (λ c κs. search rules) (λ c κs. search rules) (λ c κs. search rules) (λ c κs. search rules) (λ c. search rules) returns)
