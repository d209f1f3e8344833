-- `choices::conflict_at_zero` meets its contract. Assumes nothing.
use Rattle.choices.proofs.Calls.{zero-by}
use borrow.Author.Rules.{rules}
use Rattle.choices.proofs.conflict_at_zero.Statement.{statement}
use Rattle.choices.proofs.conflict_at_zero.Tie as tie

returns : tie.Need-returns
returns c = let s = c.args in rw (← zero-by s.work.now s.net s.s s.r c.expand_all-d.ensures.words c.expand_all-d.ensures.draft c.refute-raise.ensures.words c.refute-raise.ensures.says) c.conclude.ensures

pub conflict_at_zero_spec : {M : Type 1} → statement M
conflict_at_zero_spec =
    tie.close (tie.spec (λ c κs. search rules) (λ c κs. search rules) (λ c κs. search rules) (λ c. search rules) returns)
