-- `choices::contradict` meets its contract. Assumes nothing.
use Rattle.choices.proofs.Calls.{contradicted-by}
use borrow.Author.Rules.{rules}
use Rattle.choices.proofs.contradict.Statement.{statement}
use Rattle.choices.proofs.contradict.Tie as tie

returns : tie.Need-returns
returns c = let s = c.args in rw (← contradicted-by s.work.now s.net s.s s.l c.explain-d.ensures.words c.explain-d.ensures.draft c.refute-raise.ensures.words c.refute-raise.ensures.says) c.conclude.ensures

pub contradict_spec : {M : Type 1} → statement M
contradict_spec =
    tie.close (tie.spec (λ c κs. search rules) (λ c κs. search rules) (λ c κs. search rules) (λ c. search rules) returns)
