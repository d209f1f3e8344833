-- `set_search::rows_of` meets its contract. Assumes nothing.
use native.Mathlib.Omega.{arith}
use borrow.Author.Rules.{rules}
use lib.Pow.{pow_mono}
use Rattle.layout.specs.Words.{word}
use Rattle.set_search.proofs.rows_of.Statement.{statement}
use Rattle.set_search.proofs.rows_of.Tie as tie

returns : tie.Need-returns
returns c = let h = pow_mono {i = word c.args.plan.now 1} {j = 4} c.requires.1 in (omega arith, omega arith)

pub rows_of_spec : {M : Type 1} → statement M
rows_of_spec =
    tie.close
    (tie.spec (λ c. search rules) (λ c. search rules) (λ c. search rules) returns)
