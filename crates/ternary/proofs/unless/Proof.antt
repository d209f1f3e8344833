-- `ternary::unless` meets its contract. Assumes nothing.
use Rattle.ternary.proofs.Entries.{cond-is, cond-not}
use borrow.Author.Rules.{rules}
use Rattle.ternary.proofs.unless.Statement.{statement}
use Rattle.ternary.proofs.unless.Tie as tie

returns : tie.Need-returns-then-byte-no
returns c = let a = c.args in cond-is a.byte a.no 0 1 c.if-byte-no.true

returns-2 : tie.Need-returns-else-byte-no
returns-2 c = let a = c.args in cond-not a.byte a.no 0 1 c.if-byte-no.false

pub unless_spec : {M : Type 1} → statement M
unless_spec =
    tie.close
    (tie.spec returns returns-2)
