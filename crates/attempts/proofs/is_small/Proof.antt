-- `attempts::is_small` meets its contract. Assumes nothing.
use native.Mathlib.Omega.{arith}
use borrow.Author.Rules.{rules}
use Rattle.attempts.proofs.Small.{places-small, small-over, small_is}
use Rattle.attempts.proofs.is_small.Statement.{statement}
use Rattle.attempts.proofs.is_small.Tie as tie

returns : tie.Need-returns-then-s-gt20
returns c = small-over c.args.s c.args.nodes c.if-s-gt20.true

mul-result : tie.Need-overflow_mul-result
mul-result c = omega (arith, places-small c.args.s c.args.nodes c.if-s-gt20.false c.requires)

returns-2 : tie.Need-returns
returns-2 c = small_is c.args.s c.args.nodes c.if-s-gt20.false

pub is_small_spec : {M : Type 1} → statement M
is_small_spec =
    tie.close
    (tie.spec returns (λ c. search rules) mul-result returns-2)
