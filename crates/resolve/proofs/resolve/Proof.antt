-- `resolve::resolve` meets its contract. Assumes nothing.
use Rattle.resolve.specs.Draft as D
use mathlib.Core.Path.{refl}
use borrow.Author.Rules.{rules}
use Rattle.resolve.proofs.resolve.Statement.{statement}
use Rattle.resolve.proofs.resolve.Tie as tie

returns : tie.Need-returns-then-is_reason
unfolding D.resolved
returns c =
    let e = c.exclude-e.ensures in
    rw (
      ← c.is_reason.ensures,
      c.if-is_reason.true,
      ← c.opposite.ensures,
      ← e.words,
      ← e.draft,
    ) c.gather.ensures

returns-2 : tie.Need-returns
unfolding D.resolved
returns-2 c = rw (← c.is_reason.ensures, c.if-is_reason.false) (record { words = refl; draft = refl })

pub resolve_spec : {M : Type 1} → statement M
resolve_spec =
    tie.close
    (tie.spec (λ c κs. search rules) (λ c κs. search rules) (λ c κs. search rules) (λ c κs. search rules) (λ c. search rules) returns returns-2)
