-- `propagation::tested_rule` meets its contract. Assumes nothing.
use mathlib.Core.Path.{sym}
use borrow.Author.Rules.{rules}
use Rattle.propagation.proofs.Rules.{rule-past, rule-of}
use Rattle.propagation.proofs.tested_rule.Statement.{statement}
use Rattle.propagation.proofs.tested_rule.Tie as tie

returns : tie.Need-returns-then-g-ge1073741823
returns c =
    let a = c.args in
    sym (rule-past a.work.now a.nodes a.g c.if-g-ge1073741823.true)

returns-2 : tie.Need-returns
returns-2 c =
    let a = c.args in
    rw (
      rule-of a.work.now a.nodes a.g c.if-g-ge1073741823.false,
      ← c.field-a.ensures,
      ← c.field-b.ensures,
      ← c.value-o.ensures,
      ← c.value-x.ensures,
      ← c.value-y.ensures,
    ) c.rule.ensures

pub tested_rule_spec : {M : Type 1} → statement M
tested_rule_spec =
    tie.close
    (tie.spec returns (λ c κs. search rules) (λ c κs. search rules) (λ c. search rules) (λ c κs. search rules) (λ c κs. search rules) (λ c κs. search rules) (λ c κs. search rules) returns-2)
