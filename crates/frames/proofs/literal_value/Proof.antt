-- `frames::literal_value` meets its contract. Assumes nothing.
use native.Mathlib.Omega.{arith}
use Rattle.frames.proofs.Bits.{bit-fits, literal-bit}
use borrow.Author.Rules.{rules}
use Rattle.frames.proofs.literal_value.Statement.{statement}
use Rattle.frames.proofs.literal_value.Tie as tie

mul-result-2 : tie.Need-overflow_mul-result
mul-result-2 c = omega (arith, bit-fits c.args.l.1)

returns : tie.Need-returns
returns c = λ p h. literal-bit c.args.values.now c.args.l p h

pub literal_value_spec : {M : Type 1} → statement M
literal_value_spec =
    tie.close
    (tie.spec (λ c. search rules) (λ c. search rules) (λ c. search rules) (λ c. search rules) mul-result-2 returns)
