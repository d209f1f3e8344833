-- `place_decision::capped` meets its contract. Assumes nothing.
use native.Mathlib.Omega.{arith}
use borrow.Author.Rules.{rules}
use Rattle.aiger.specs.Search.{greatest}
use Rattle.place_decision.proofs.capped.Statement.{statement}
use Rattle.place_decision.proofs.capped.Tie as tie

returns : tie.Need-returns-then-x-lt4611686018427387904
unfolding greatest
returns c = omega (arith, c.if-x-lt4611686018427387904.true)

returns-2 : tie.Need-returns-else-x-lt4611686018427387904
unfolding greatest
returns-2 c = omega (arith, c.if-x-lt4611686018427387904.false)

pub capped_spec : {M : Type 1} → statement M
capped_spec =
    tie.close
    (tie.spec returns returns-2)
