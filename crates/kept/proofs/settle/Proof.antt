-- `kept::settle` meets its contract. Assumes nothing.
use borrow.Author.Tests.{eq-eqb, ne_eqb}
use Rattle.kept.specs.Kept as K
use borrow.Author.Rules.{rules}
use Rattle.kept.proofs.settle.Statement.{statement}
use Rattle.kept.proofs.settle.Tie as tie

returns : tie.Need-returns-then-d-eq1
unfolding K.settled
returns c =
    rw (
      c.if-d.true,
      eq-eqb _ _ c.if-d-eq1.true,
      ← c.literal-l.ensures,
    ) c.fix.ensures

returns-2 : tie.Need-returns-else-d-eq1
unfolding K.settled
returns-2 c = rw (c.if-d.true, ne_eqb _ _ c.if-d-eq1.false)

returns-3 : tie.Need-returns-else-d
unfolding K.settled
returns-3 c = rw c.if-d.false

pub settle_spec : {M : Type 1} → statement M
settle_spec = tie.close (tie.spec (λ c κs. search rules) (λ c κs. search rules) (λ c. search rules) returns returns-2 returns-3)
