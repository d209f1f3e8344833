-- `attempts::scan_cost` meets its contract. Assumes nothing.
use native.Mathlib.Omega.{arith}
use borrow.Author.Rules.{rules}
use Rattle.attempts.proofs.Small.{places-small, cost-is}
use Rattle.attempts.proofs.scan_cost.Statement.{statement}
use Rattle.attempts.proofs.scan_cost.Tie as tie

mul-result : tie.Need-overflow_mul-result
mul-result c = omega (arith, places-small c.args.s c.args.nodes c.requires.0 c.requires.1)

returns : tie.Need-returns
returns c = cost-is c.args.s c.args.nodes c.requires.0

pub scan_cost_spec : {M : Type 1} → statement M
scan_cost_spec =
    tie.close
    (tie.spec (λ c. search rules) mul-result returns)
