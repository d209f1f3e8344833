-- `kept::fix` meets its contract. Assumes nothing.
use Rattle.kept.specs.Kept as K
use borrow.Author.Rules.{rules}
use Rattle.kept.proofs.fix.Statement.{statement}
use Rattle.kept.proofs.fix.Tie as tie

returns : tie.Need-returns
unfolding K.fixed
returns c = rw (← c.field-fact.ensures) c.set_field.ensures

pub fix_spec : {M : Type 1} → statement M
fix_spec =
    tie.close
    (tie.spec (λ c κs. search rules) (λ c. search rules) (λ c. search rules) (λ c. search rules) (λ c κs. search rules) (λ c. search rules) returns)
