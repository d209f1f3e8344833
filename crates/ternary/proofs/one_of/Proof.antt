-- `ternary::one_of` meets its contract. Assumes nothing.
use Rattle.ternary.proofs.Entries.{cond-is, cond-not}
use borrow.Author.Rules.{rules}
use Rattle.ternary.proofs.one_of.Statement.{statement}
use Rattle.ternary.proofs.one_of.Tie as tie

returns : tie.Need-returns-then-x-eq1
returns c = let a = c.args in cond-is a.x 1 1 a.y c.if-x-eq1.true

returns-2 : tie.Need-returns-else-x-eq1
returns-2 c = let a = c.args in cond-not a.x 1 1 a.y c.if-x-eq1.false

pub one_of_spec : {M : Type 1} → statement M
one_of_spec =
    tie.close
    (tie.spec returns returns-2)
