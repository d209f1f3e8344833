-- `pinned_runs::rows_of` meets its contract. Assumes nothing.
use native.Mathlib.Omega.{arith}
use borrow.Author.Rules.{rules}
use Rattle.pinned_runs.proofs.Bytes.{rows-most}
use Rattle.pinned_runs.proofs.rows_of.Statement.{statement}
use Rattle.pinned_runs.proofs.rows_of.Tie as tie

mul-t6 : tie.Need-overflow_mul-result
mul-t6 c = omega (arith, rows-most c.args.frames c.args.layout.i c.requires.2 c.requires.1)

add-t7 : tie.Need-overflow_add-result-2
add-t7 c = omega (arith, rows-most c.args.frames c.args.layout.i c.requires.2 c.requires.1)

pub rows_of_spec : {M : Type 1} → statement M
rows_of_spec = tie.close (tie.spec (λ c. search rules) (λ c. search rules) mul-t6 add-t7 (λ c. search rules))
