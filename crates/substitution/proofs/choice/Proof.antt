-- `substitution::choice` meets its contract. Assumes nothing.
use borrow.Author.Tests.{eq-eqb, ne_eqb}
use borrow.Author.Rules.{rules}
use Rattle.substitution.specs.Substitution.{choice}
use Rattle.substitution.proofs.choice.Statement.{statement}
use Rattle.substitution.proofs.choice.Tie as tie

returns : tie.Need-returns-then-g-h
unfolding choice
returns c = rw (eq-eqb _ _ c.if-g-h.true)

returns-2 : tie.Need-returns-then-f-eq1
unfolding choice
returns-2 c = rw (ne_eqb _ _ c.if-g-h.false, eq-eqb _ _ c.if-f-eq1.true)

returns-3 : tie.Need-returns-then-f-eq0
unfolding choice
returns-3 c =
    rw (ne_eqb _ _ c.if-g-h.false, ne_eqb _ _ c.if-f-eq1.false, eq-eqb _ _ c.if-f-eq0.true)

same_length : tie.Need-shape_of-w
same_length c = c.of_arms.auto.w

returns-4 : tie.Need-returns
unfolding choice
returns-4 c =
    rw (
      ne_eqb _ _ c.if-g-h.false,
      ne_eqb _ _ c.if-f-eq1.false,
      ne_eqb _ _ c.if-f-eq0.false,
      ← c.flip.ensures,
      ← c.arm.ensures,
      ← c.arm-2.ensures,
    )
    c.of_arms.ensures

pub choice_spec : {M : Type 1} → statement M
choice_spec =
    tie.close
    (tie.spec returns returns-2 returns-3 (λ c κs. search rules) (λ c κs. search rules) (λ c κs. search rules) (λ c κs. search rules) same_length returns-4)
