-- `reachable::power` meets its contract. Assumes nothing.
use native.Mathlib.Omega.{arith}
use lib.Pow.{pow_mono}
use borrow.Author.Rules.{rules}
use Rattle.reachable.proofs.power.Statement.{statement}
use Rattle.reachable.proofs.power.Tie as tie

returns : tie.Need-returns
returns c = let a = pow_mono {i = c.args.n} {j = 16} c.requires in (omega arith, omega arith)

pub power_spec : {M : Type 1} → statement M
power_spec = tie.close (tie.spec (λ c. search rules) returns)
