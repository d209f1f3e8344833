-- `learning::keep_literal` meets its contract. Assumes nothing.
use Rattle.learning.specs.Learning as Ln
use borrow.Author.Rules.{rules}
use Rattle.learning.proofs.keep_literal.Statement.{statement}
use Rattle.learning.proofs.keep_literal.Tie as tie

returns : tie.Need-returns
unfolding Ln.kept_literal
returns c =
    let r = c.retreat-u.ensures in
    rw (
      ← c.literal-l.ensures,
      ← c.settle.ensures,
      ← r.words,
      ← r.search,
    ) c.assert.ensures

pub keep_literal_spec : {M : Type 1} → statement M
keep_literal_spec =
    tie.close
    (tie.spec (λ c κs. search rules) (λ c κs. search rules) (λ c κs. search rules) (λ c κs. search rules) (λ c. search rules) returns)
