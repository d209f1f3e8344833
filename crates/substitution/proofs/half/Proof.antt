-- `substitution::half` meets its contract. Assumes nothing.
use borrow.Author.Tests.{eq-eqb, ne_eqb}
use borrow.Author.Rules.{rules}
use Rattle.substitution.specs.Substitution.{half}
use Rattle.substitution.proofs.half.Statement.{statement}
use Rattle.substitution.proofs.half.Tie as tie

returns : tie.Need-returns-then-x-eq0
unfolding half
returns c = rw (eq-eqb _ _ c.if-x-eq0.true) c.flip.ensures

returns-2 : tie.Need-returns
unfolding half
returns-2 c = rw (ne_eqb _ _ c.if-x-eq0.false) c.flip-2.ensures

pub half_spec : {M : Type 1} → statement M
half_spec =
    tie.close
    (tie.spec (λ c κs. search rules) returns (λ c κs. search rules) returns-2)
