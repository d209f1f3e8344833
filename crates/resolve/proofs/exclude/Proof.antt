-- `resolve::exclude` meets its contract. Assumes nothing.
use borrow.Author.Tests.{eq-eqb, le-leb, lt-leb, ne_eqb}
use Rattle.resolve.specs.Draft as D
use mathlib.Core.Path.{refl}
use borrow.Author.Rules.{rules}
use Rattle.resolve.proofs.exclude.Statement.{statement}
use Rattle.resolve.proofs.exclude.Tie as tie

returns : tie.Need-returns-then-d-p
unfolding D.excluded D.removed
returns c = rw (← c.field-p.ensures, le-leb _ _ c.if-d-p.true) (record { words = refl; draft = refl })

returns-2 : tie.Need-returns-then-literal-l
unfolding D.excluded D.removed
returns-2 c =
    rw (
      ← c.field-p.ensures,
      ← c.literal.ensures,
      lt-leb _ _ c.if-d-p.false,
      ne_eqb _ _ c.if-literal-l.true,
    ) (record { words = refl; draft = refl })

returns-3 : tie.Need-returns
unfolding D.excluded D.removed
returns-3 c =
    rw (
      ← c.field-p.ensures,
      ← c.literal.ensures,
      lt-leb _ _ c.if-d-p.false,
      eq-eqb _ _ c.if-literal-l.false,
    )
    (record {
      words = rw (
        ← c.literal-x.ensures,
        ← c.set_literal.ensures,
      ) c.set_field.ensures;
      draft = refl;
    })

pub exclude_spec : {M : Type 1} → statement M
exclude_spec =
    tie.close
    (tie.spec (λ c κs. search rules) (λ c. search rules) returns (λ c κs. search rules) (λ c. search rules) returns-2 (λ c. search rules) (λ c κs. search rules) (λ c κs. search rules) (λ c κs. search rules) (λ c. search rules) (λ c. search rules) returns-3)
