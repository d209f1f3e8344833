-- `ternary::conjunction` meets its contract. Assumes nothing.
use borrow.Author.Rules.{rules}
use Rattle.ternary.proofs.conjunction.Statement.{statement}
use Rattle.ternary.proofs.conjunction.Tie as tie

returns : tie.Need-returns
returns c =
    let one = c.both.ensures in
    let none = c.one_of.ensures in
    λ i. record { high = one i; low = none i }

pub conjunction_spec : {M : Type 1} → statement M
conjunction_spec =
    tie.close
    (tie.spec (λ c κs. search rules) (λ c κs. search rules) returns)
