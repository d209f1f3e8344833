-- `substitution::substituted` meets its contract. Assumes nothing.
use borrow.Author.Rules.{rules}
use Rattle.substitution.specs.Substitution.{substituted}
use Rattle.substitution.proofs.substituted.Statement.{statement}
use Rattle.substitution.proofs.substituted.Tie as tie

same_length : tie.Need-shape_of-w
same_length c = c.substituted_within.auto.w

returns : tie.Need-returns
unfolding substituted
returns c = c.substituted_within.ensures

pub substituted_spec : {M : Type 1} → statement M
substituted_spec =
    tie.close
    (tie.spec (λ c κs. search rules) same_length returns)
