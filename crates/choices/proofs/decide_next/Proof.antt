-- `choices::decide_next` meets its contract. Assumes nothing.
use borrow.Author.Tests.{le-ltb, lt-ltb}
use Rattle.choices.proofs.Calls.{next-some, next-none}
use borrow.Author.Rules.{rules}
use Rattle.choices.proofs.decide_next.Statement.{statement}
use Rattle.choices.proofs.decide_next.Tie as tie

returns : tie.Need-returns-then-a-end
returns c = let s = c.args in rw (← next-some s.work.now s.net s.s s.end c.agree-a.ensures c.with_agreed.ensures c.with_order-u.ensures c.if-a-end.true) c.assume.ensures

returns-2 : tie.Need-returns
returns-2 c = let s = c.args in rw (← next-none s.work.now s.net s.s s.end c.agree-a.ensures c.with_agreed.ensures c.with_order-u.ensures c.if-a-end.false) c.decide_active.ensures

pub decide_next_spec : {M : Type 1} → statement M
decide_next_spec =
    tie.close
    (tie.spec (λ c κs. search rules) (λ c κs. search rules) (λ c κs. search rules) (λ c. search rules) (λ c κs. search rules) (λ c. search rules) returns (λ c κs. search rules) (λ c. search rules) returns-2)
