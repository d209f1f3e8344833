-- `choices::end` meets its contract. Assumes nothing.
use Rattle.choices.proofs.Calls.{ended_by}
use borrow.Author.Rules.{rules}
use Rattle.choices.proofs.end.Statement.{statement}
use Rattle.choices.proofs.end.Tie as tie

returns : tie.Need-returns
returns c = let s = c.args in ended_by s.s s.x c.with_verdict.ensures c.with_order.ensures

pub end_spec : {M : Type 1} → statement M
end_spec = tie.close (tie.spec (λ c κs. search rules) (λ c κs. search rules) returns)
