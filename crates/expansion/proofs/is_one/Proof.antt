-- `expansion::is_one` meets its contract. Assumes nothing.
use native.Mathlib.Omega.{arith}
use Rattle.pinning.proofs.Tables.{get_d_past}
use borrow.Author.Rules.{rules}
use Rattle.expansion.proofs.is_one.Statement.{statement}
use Rattle.expansion.proofs.is_one.Tie as tie
use Rattle.expansion.proofs.is_one.Reads as reads
use Rattle.expansion.proofs.is_one.Lts as lts

returns-2 : tie.Need-returns
returns-2 c = rw (get_d_past c.args.text.now c.args.at 0 (omega arith))

pub is_one_spec : {M : Type 1} → statement M
is_one_spec = tie.close (tie.spec (λ c. search rules) (λ c. search rules) returns-2)
