-- `choices::change` meets its contract. Assumes nothing.
use Rattle.choices.proofs.Calls.{changed-by}
use borrow.Author.Rules.{rules}
use Rattle.choices.proofs.change.Statement.{statement}
use Rattle.choices.proofs.change.Tie as tie

returns : tie.Need-returns
returns c = let s = c.args in rw (← changed-by s.work.now s.net s.s s.sweep s.goal s.more c.ordered.ensures c.with_order.ensures) c.retreat.ensures

pub change_spec : {M : Type 1} → statement M
change_spec =
    tie.close (tie.spec (λ c κs. search rules) (λ c κs. search rules) (λ c κs. search rules) (λ c. search rules) returns)
