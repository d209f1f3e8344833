-- `choices::choose` meets its contract. Assumes nothing.
use borrow.Author.Tests.{eq-eqb, ne_eqb}
use Rattle.choices.specs.Choices as Ch
use Rattle.choices.proofs.Calls.{chosen-sweep, chosen-free}
use borrow.Author.Rules.{rules}
use Rattle.choices.proofs.choose.Statement.{statement}
use Rattle.choices.proofs.choose.Tie as tie

returns : tie.Need-returns-then-x-eq2
unfolding Ch.chosen
returns c = rw (← c.value-x.ensures, eq-eqb _ _ c.if-x-eq2.true) (c.take.ensures)

returns-2 : tie.Need-returns-then-x-eq0
unfolding Ch.chosen
returns-2 c = rw (← c.value-x.ensures, ← c.opposite.ensures, ne_eqb _ _ c.if-x-eq2.false, eq-eqb _ _ c.if-x-eq0.true) (c.contradict.ensures)

returns-3 : tie.Need-returns-then-o
returns-3 c = let s = c.args in rw (chosen-sweep s.work.now s.net s.s c.value-x.ensures c.if-x-eq2.false c.if-x-eq0.false c.if-o.true) c.decide_next.ensures

returns-4 : tie.Need-returns
returns-4 c = let s = c.args in rw (chosen-free s.work.now s.net s.s c.value-x.ensures c.if-x-eq2.false c.if-x-eq0.false c.if-o.false) c.decide_next-2.ensures

pub choose_spec : {M : Type 1} → statement M
choose_spec =
    tie.close
    (tie.spec (λ c κs. search rules) (λ c κs. search rules) (λ c. search rules) returns (λ c κs. search rules) (λ c κs. search rules) (λ c. search rules) returns-2 (λ c κs. search rules) (λ c. search rules) returns-3 (λ c κs. search rules) (λ c. search rules) returns-4)
