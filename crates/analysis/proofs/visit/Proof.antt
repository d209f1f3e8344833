-- `analysis::visit` meets its contract. Assumes nothing.
use Rattle.analysis.specs.Analysis as S
use mathlib.Core.Path.{refl}
use borrow.Author.Rules.{rules}
use Rattle.analysis.proofs.visit.Statement.{statement}
use Rattle.analysis.proofs.visit.Tie as tie

returns : tie.Need-returns-then-is_member
unfolding S.visited
returns c = rw (
  ← c.field-l.ensures,
  ← c.opposite.ensures,
  ← c.is_member.ensures,
  c.if-is_member.true,
) c.replace.ensures

returns-2 : tie.Need-returns
unfolding S.visited
returns-2 c =
    rw (
      ← c.field-l.ensures,
      ← c.opposite.ensures,
      ← c.is_member.ensures,
      c.if-is_member.false,
    ) (record { words = refl; now = refl })

pub visit_spec : {M : Type 1} → statement M
visit_spec =
    tie.close
    (tie.spec (λ c κs. search rules) (λ c κs. search rules) (λ c κs. search rules) (λ c κs. search rules) (λ c. search rules) returns (λ c. search rules) returns-2)
