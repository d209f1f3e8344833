-- `learning::store` meets its contract. Assumes nothing.
use borrow.Author.Tests.{eq-eqb, le-ltb, lt-ltb, ne_eqb}
use Rattle.learning.specs.Learning as Ln
use Rattle.learning.proofs.Calls.{store-literal, store-clause}
use borrow.Author.Rules.{rules}
use Rattle.learning.proofs.store.Statement.{statement}
use Rattle.learning.proofs.store.Tie as tie

returns : tie.Need-returns-then-d-eq1
returns c = let s = c.args in rw (store-literal s.work.now s.net s.s s.d c.if-d.true c.if-d-eq1.true) c.keep_literal.ensures

keep-clause-requires : tie.Need-keep_clause-requires
keep-clause-requires c κs = c.if-d-gt1.true

returns-2 : tie.Need-returns-then-d-gt1
returns-2 c = let s = c.args in rw (store-clause s.work.now s.net s.s s.d c.if-d.true c.if-d-eq1.false c.if-d-gt1.true) c.keep_clause.ensures

returns-3 : tie.Need-returns-then-d
unfolding Ln.stored_clause
returns-3 c = rw (c.if-d.true, ne_eqb _ _ c.if-d-eq1.false, le-ltb _ _ c.if-d-gt1.false) (c.forget.ensures)

returns-4 : tie.Need-returns
unfolding Ln.stored_clause
returns-4 c = rw c.if-d.false (c.forget-2.ensures)

pub store_spec : {M : Type 1} → statement M
store_spec =
    tie.close
    (tie.spec (λ c κs. search rules) (λ c. search rules) returns keep-clause-requires (λ c. search rules) returns-2 (λ c κs. search rules) (λ c. search rules) returns-3 (λ c κs. search rules) (λ c. search rules) returns-4)
