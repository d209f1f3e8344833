-- `transitions::word_end` meets its contract. Assumes nothing.
use native.Mathlib.Omega.{arith}
use borrow.Author.Rules.{rules}
use Rattle.transitions.proofs.word_end.Statement.{statement}
use Rattle.transitions.proofs.word_end.Tie as tie

returns : tie.Need-returns-then-count-from-lt32
returns c = omega (arith, c.requires, c.if-count-from-lt32.true)

returns-2 : tie.Need-returns
returns-2 c = omega (arith, c.requires, c.if-count-from-lt32.false)

pub word_end_spec : {M : Type 1} → statement M
word_end_spec =
    tie.close
    (tie.spec (λ c. search rules) returns (λ c. search rules) returns-2)
