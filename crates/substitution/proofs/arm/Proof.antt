-- `substitution::arm` meets its contract. Assumes nothing.
use borrow.Author.Tests.{eq-eqb, ne_eqb}
use borrow.Author.Rules.{rules}
use Rattle.substitution.specs.Substitution.{arm}
use Rattle.substitution.proofs.arm.Statement.{statement}
use Rattle.substitution.proofs.arm.Tie as tie

returns : tie.Need-returns-then-g-f
unfolding arm
returns c = rw (eq-eqb _ _ c.if-g-f.true)

returns-2 : tie.Need-returns-then-g-flip
unfolding arm
returns-2 c =
    rw (ne_eqb _ _ c.if-g-f.false, ← c.flip.ensures, eq-eqb _ _ c.if-g-flip.true)

returns-3 : tie.Need-returns
unfolding arm
returns-3 c =
    rw (ne_eqb _ _ c.if-g-f.false, ← c.flip.ensures, ne_eqb _ _ c.if-g-flip.false)

pub arm_spec : {M : Type 1} → statement M
arm_spec =
    tie.close
    (tie.spec returns (λ c κs. search rules) returns-2 returns-3)
