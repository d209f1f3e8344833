-- `settling::settle_one` meets its contract. Assumes nothing.
use Rattle.settling.specs.Settling as S
use borrow.Author.Rules.{rules}
use Rattle.settling.proofs.settle_one.Statement.{statement}
use Rattle.settling.proofs.settle_one.Tie as tie

returns : tie.Need-returns
unfolding S.settled_one
returns c =
    let d = c.start-d.ensures in
    rw (
      ← c.field-l.ensures,
      ← c.field-why.ensures,
      ← d.words,
      ← d.draft,
    ) c.settle.ensures

pub settle_one_spec : {M : Type 1} → statement M
settle_one_spec =
    tie.close
    (tie.spec (λ c κs. search rules) (λ c κs. search rules) (λ c κs. search rules) (λ c κs. search rules) (λ c. search rules) returns)
