-- `join::joined_counts` meets its contract. Assumes nothing.
use native.Mathlib.Omega.{arith}
use borrow.Author.Rules.{rules}
use Rattle.join.proofs.joined_counts.Statement.{statement}
use Rattle.join.proofs.joined_counts.Tie as tie

cast-t13 : tie.Need-overflow_cast-result-5
cast-t13 c = omega (arith, c.requires)

cast-t14 : tie.Need-overflow_cast-result-6
cast-t14 c = omega (arith, c.requires)

pub joined_counts_spec : {M : Type 1} → statement M
joined_counts_spec =
    tie.close
    (tie.spec (λ c. search rules) (λ c. search rules) (λ c. search rules) (λ c. search rules) (λ c. search rules) (λ c. search rules) (λ c. search rules) (λ c. search rules) (λ c. search rules) (λ c. search rules) (λ c. search rules) cast-t13 cast-t14 (λ c. search rules))
