-- `layout::count_at` meets its contract. Assumes nothing.
use mathlib.Core.Path.{refl}
use native.Mathlib.Omega.{arith}
use borrow.Author.Rules.{rules}
use Rattle.layout.proofs.count_at.Statement.{statement}
use Rattle.layout.proofs.count_at.Tie as tie

cast-result : tie.Need-overflow_cast-result
cast-result c = omega (arith, c.shared_slice_known-1.given c.args.i)

returns : tie.Need-returns
returns c = (refl, omega (arith, c.shared_slice_known-1.given c.args.i))

pub count_at_spec : {M : Type 1} → statement M
count_at_spec = tie.close (tie.spec (λ c. search rules) (λ c. search rules) cast-result returns)
