-- `vcd::write_value` meets its contract. Assumes nothing.
use native.Mathlib.Omega.{arith}
use Rattle.vcd.specs.Text.{identifier}
use borrow.Author.Rules.{rules}
use Rattle.vcd.proofs.write_value.Statement.{statement}
use Rattle.vcd.proofs.write_value.Tie as tie

put-requires : tie.Need-put-requires
put-requires c κs = omega (arith, c.requires.1)

returns : tie.Need-returns
unfolding identifier
returns c = c.put.ensures

pub write_value_spec : {M : Type 1} → statement M
write_value_spec =
    tie.close
    (tie.spec (λ c. search rules) (λ c. search rules) (λ c. search rules) (λ c. search rules) (λ c. search rules) put-requires (λ c. search rules) returns)
