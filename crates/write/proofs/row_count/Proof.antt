-- `write::row_count` meets its contract. Assumes nothing.
use borrow.Author.Tests.{eq-eqb, ne_eqb}
use borrow.Author.Rules.{rules}
use Rattle.write.proofs.row_count.Statement.{statement}
use Rattle.write.proofs.row_count.Tie as tie

returns : tie.Need-returns-then-m-p-eq0
returns c = rw (eq-eqb _ 0 c.if-m-p-eq0.true)

returns-2 : tie.Need-returns
returns-2 c = rw (ne_eqb _ 0 c.if-m-p-eq0.false)

pub row_count_spec : {M : Type 1} → statement M
row_count_spec =
    tie.close (tie.spec (λ c. search rules) (λ c. search rules) (λ c. search rules) (λ c. search rules) returns returns-2)
