-- `witness::bit_at` meets its contract. Assumes nothing.
use borrow.Author.Rules.{rules}
use lib.ListN.{get_or}
use Rattle.witness.proofs.Rows.{nonzero-test}
use Rattle.witness.proofs.bit_at.Statement.{statement}
use Rattle.witness.proofs.bit_at.Tie as tie

returns : tie.Need-returns
returns c = let a = c.args in nonzero-test (get_or a.words.now a.i 0)

pub bit_at_spec : {M : Type 1} → statement M
bit_at_spec = tie.close (tie.spec (λ c. search rules) (λ c. search rules) returns)
