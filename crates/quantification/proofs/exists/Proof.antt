-- `quantification::exists` meets its contract. Assumes nothing.
use borrow.Author.Rules.{rules}
use Rattle.quantification.specs.Quantification.{exists}
use Rattle.quantification.proofs.exists.Statement.{statement}
use Rattle.quantification.proofs.exists.Tie as tie

same_length : tie.Need-shape_of-w
same_length c = c.exists_within.auto.w

returns : tie.Need-returns
unfolding exists
returns c = c.exists_within.ensures

pub exists_spec : {M : Type 1} → statement M
exists_spec =
    tie.close
    (tie.spec (λ c κs. search rules) same_length returns)
