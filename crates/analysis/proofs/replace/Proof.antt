-- `analysis::replace` meets its contract. Assumes nothing.
use Rattle.analysis.specs.Analysis as S
use mathlib.Core.Path.{refl}
use borrow.Author.Rules.{rules}
use Rattle.analysis.proofs.replace.Statement.{statement}
use Rattle.analysis.proofs.replace.Tie as tie

returns : tie.Need-returns
unfolding S.replaced S.recounted
returns c =
    let r = c.resolve-e.ensures in
    let t = c.touch_all-n.ensures in
    rw (
      ← c.field-why.ensures,
      ← r.words,
      ← r.draft,
      ← c.saturating_sub.ensures,
      ← c.saturating_sub-2.ensures,
      ← t.count,
      ← c.sum.ensures,
    ) (record { words = t.words; now = refl })

pub replace_spec : {M : Type 1} → statement M
replace_spec =
    tie.close
    (tie.spec (λ c κs. search rules) (λ c κs. search rules) (λ c κs. search rules) (λ c κs. search rules) (λ c κs. search rules) (λ c κs. search rules) (λ c. search rules) returns)
