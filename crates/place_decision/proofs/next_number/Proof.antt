-- `place_decision::next_number` meets its contract. Assumes nothing.
use native.Mathlib.Omega.{arith}
use Rattle.place_decision.proofs.Numbers.{next-zero, next_one}
use borrow.Author.Rules.{rules}
use Rattle.place_decision.proofs.next_number.Statement.{statement}
use Rattle.place_decision.proofs.next_number.Tie as tie

returns : tie.Need-returns-then-x-ge4611686018427387904
returns c = omega (arith, c.if-x-ge4611686018427387904.true)

returns-2 : tie.Need-returns-then-digit-eq0
returns-2 c = next-zero c.args.x c.args.digit c.if-digit-eq0.true (omega (arith, c.if-x-ge4611686018427387904.false))

returns-3 : tie.Need-returns-else-digit-eq0
returns-3 c = next_one c.args.x c.args.digit c.if-digit-eq0.false (omega (arith, c.if-x-ge4611686018427387904.false))

pub next_number_spec : {M : Type 1} → statement M
next_number_spec =
    tie.close
    (tie.spec returns (λ c. search rules) (λ c. search rules) (λ c. search rules) returns-2 returns-3)
