-- `choices::decide_active` meets its contract. Assumes nothing.
use borrow.Author.Tests.{eq-eqb, ne_eqb}
use Rattle.choices.proofs.Calls.{active-none, active-some}
use native.Mathlib.Omega.{arith}
use borrow.Author.Rules.{rules}
use Rattle.choices.proofs.decide_active.Statement.{statement}
use Rattle.choices.proofs.decide_active.Tie as tie

returns : tie.Need-returns-then-g-eq0
returns c = let s = c.args in rw (← active-none s.work.now s.net s.s c.skim-g.ensures.words c.skim-g.ensures.heap c.with_heap.ensures c.if-g-eq0.true) c.model.ensures

mul-take : tie.Need-overflow_mul-v
mul-take c = omega arith

add-take : tie.Need-overflow_add-v
add-take c = omega arith

returns-2 : tie.Need-returns
returns-2 c = let s = c.args in rw (← active-some s.work.now s.net s.s c.skim-g.ensures.words c.skim-g.ensures.heap c.with_heap-2.ensures c.if-g-eq0.false c.at_place-v.ensures) c.take.ensures

pub decide_active_spec : {M : Type 1} → statement M
decide_active_spec =
    tie.close
    (tie.spec (λ c κs. search rules) (λ c κs. search rules) (λ c κs. search rules) (λ c. search rules) returns (λ c κs. search rules) (λ c κs. search rules) mul-take add-take (λ c κs. search rules) (λ c. search rules) returns-2)
