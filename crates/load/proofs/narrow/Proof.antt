-- `load::narrow` meets its contract: counts within their limits are words. Assumes nothing.
use native.Mathlib.Omega.{arith}
use borrow.Author.Rules.{rules}
use Rattle.load.proofs.Finishing.{limits-read}
use Rattle.load.proofs.narrow.Statement.{statement}
use Rattle.load.proofs.narrow.Tie as tie

cast-t2 : tie.Need-overflow_cast-result
cast-t2 c = omega (arith, limits-read c.args.h c.requires)

cast-t3 : tie.Need-overflow_cast-result-2
cast-t3 c = omega (arith, limits-read c.args.h c.requires)

cast-t4 : tie.Need-overflow_cast-result-3
cast-t4 c = omega (arith, limits-read c.args.h c.requires)

cast-t5 : tie.Need-overflow_cast-result-4
cast-t5 c = omega (arith, limits-read c.args.h c.requires)

cast-t6 : tie.Need-overflow_cast-result-5
cast-t6 c = omega (arith, limits-read c.args.h c.requires)

cast-t7 : tie.Need-overflow_cast-result-6
cast-t7 c = omega (arith, limits-read c.args.h c.requires)

cast-t8 : tie.Need-overflow_cast-result-7
cast-t8 c = omega (arith, limits-read c.args.h c.requires)

pub narrow_spec : {M : Type 1} → statement M
narrow_spec = tie.close (tie.spec cast-t2 cast-t3 cast-t4 cast-t5 cast-t6 cast-t7 cast-t8 (λ c. search rules))
