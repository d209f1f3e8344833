-- `substitution::of_arms` meets its contract. Assumes nothing.
use borrow.Author.Tests.{eq-eqb, ne_eqb}
use borrow.Author.Rules.{rules}
use Rattle.substitution.specs.Substitution.{of_arms}
use Rattle.substitution.proofs.of_arms.Statement.{statement}
use Rattle.substitution.proofs.of_arms.Tie as tie

returns : tie.Need-returns-then-g-h
unfolding of_arms
returns c = rw (eq-eqb _ _ c.if-g-h.true)

same_length : tie.Need-shape_of-w-then-g-eq1
same_length c = c.either.auto.w

returns-2 : tie.Need-returns-then-g-eq1
unfolding of_arms
returns-2 c =
    rw (ne_eqb _ _ c.if-g-h.false, eq-eqb _ _ c.if-g-eq1.true) c.either.ensures

same-length-2 : tie.Need-shape_of-w-then-g-eq0
same-length-2 c = c.both.auto.w

returns-3 : tie.Need-returns-then-g-eq0
unfolding of_arms
returns-3 c =
    rw (ne_eqb _ _ c.if-g-h.false, ne_eqb _ _ c.if-g-eq1.false, eq-eqb _ _ c.if-g-eq0.true, ← c.flip.ensures)
    c.both.ensures

same-length-3 : tie.Need-shape_of-w-then-h-eq1
same-length-3 c = c.either-then-h-eq1.auto.w

returns-4 : tie.Need-returns-then-h-eq1
unfolding of_arms
returns-4 c =
    rw (
      ne_eqb _ _ c.if-g-h.false,
      ne_eqb _ _ c.if-g-eq1.false,
      ne_eqb _ _ c.if-g-eq0.false,
      eq-eqb _ _ c.if-h-eq1.true,
      ← c.flip-then-h-eq1.ensures,
    )
    c.either-then-h-eq1.ensures

same-length-4 : tie.Need-shape_of-w-then-h-eq0
same-length-4 c = c.both-then-h-eq0.auto.w

returns-5 : tie.Need-returns-then-h-eq0
unfolding of_arms
returns-5 c =
    rw (
      ne_eqb _ _ c.if-g-h.false,
      ne_eqb _ _ c.if-g-eq1.false,
      ne_eqb _ _ c.if-g-eq0.false,
      ne_eqb _ _ c.if-h-eq1.false,
      eq-eqb _ _ c.if-h-eq0.true,
    )
    c.both-then-h-eq0.ensures

same-length-5 : tie.Need-shape_of-w
same-length-5 c = c.whole.auto.w

returns-6 : tie.Need-returns
unfolding of_arms
returns-6 c =
    rw (
      ne_eqb _ _ c.if-g-h.false,
      ne_eqb _ _ c.if-g-eq1.false,
      ne_eqb _ _ c.if-g-eq0.false,
      ne_eqb _ _ c.if-h-eq1.false,
      ne_eqb _ _ c.if-h-eq0.false,
    )
    c.whole.ensures

pub of_arms_spec : {M : Type 1} → statement M
of_arms_spec =
    tie.close
    (tie.spec returns (λ c κs. search rules) same_length returns-2 (λ c κs. search rules) (λ c κs. search rules) same-length-2 returns-3 (λ c κs. search rules) (λ c κs. search rules) same-length-3 returns-4 (λ c κs. search rules) same-length-4 returns-5 (λ c κs. search rules) same-length-5 returns-6)
