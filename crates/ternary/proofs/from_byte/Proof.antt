-- `ternary::from_byte` meets its contract. Assumes nothing.
use borrow.Author.Rules.{rules}
use Rattle.ternary.proofs.from_byte.Statement.{statement}
use Rattle.ternary.proofs.from_byte.Tie as tie

returns : tie.Need-returns
returns c =
    let one = c.unless.ensures in
    let none = c.unless-2.ensures in
    λ i. record { high = one i; low = none i }

pub from_byte_spec : {M : Type 1} → statement M
from_byte_spec =
    tie.close
    (tie.spec (λ c κs. search rules) (λ c κs. search rules) returns)
