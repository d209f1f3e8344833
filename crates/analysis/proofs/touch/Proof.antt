-- `analysis::touch` meets its contract. Assumes nothing.
use Rattle.analysis.specs.Analysis as S
use borrow.Author.Rules.{rules}
use Rattle.analysis.proofs.touch.Statement.{statement}
use Rattle.analysis.proofs.touch.Tie as tie

returns : tie.Need-returns
unfolding S.touched
returns c =
    rw (
      ← c.field-act.ensures,
      ← c.sum.ensures,
    ) c.set_field.ensures

pub touch_spec : {M : Type 1} → statement M
touch_spec = tie.close (tie.spec (λ c κs. search rules) (λ c κs. search rules) (λ c κs. search rules) (λ c. search rules) returns)
