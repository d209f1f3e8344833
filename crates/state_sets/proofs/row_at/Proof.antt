-- `state_sets::row_at` meets its contract. Assumes nothing.
use native.Mathlib.Omega.{arith}
use borrow.Author.Rules.{rules}
use Rattle.state_sets.specs.Shape.{row_at}
use Rattle.state_sets.proofs.Room.{row_is, row_small}
use Rattle.state_sets.proofs.row_at.Statement.{statement}
use Rattle.state_sets.proofs.row_at.Tie as tie

mul-result : tie.Need-overflow_mul-result
mul-result c = let a = c.args in omega (arith, row_small a.s.vars a.r c.requires.0 c.requires.1)

add-result-2 : tie.Need-overflow_add-result-2
add-result-2 c = let a = c.args in omega (arith, row_small a.s.vars a.r c.requires.0 c.requires.1)

returns : tie.Need-returns
returns c = let a = c.args in omega (arith, row_is a.s.vars a.r)

pub row_at_spec : {M : Type 1} → statement M
row_at_spec =
    tie.close
    (tie.spec (λ c. search rules) mul-result add-result-2 returns)
