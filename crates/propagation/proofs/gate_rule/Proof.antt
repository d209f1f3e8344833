-- `propagation::gate_rule` meets its contract. Assumes nothing.
use mathlib.Core.Path.{sym, ◌∙◌}
use native.Mathlib.Omega.{arith}
use borrow.Author.Rules.{rules}
use lib.ListN.{get_or}
use Rattle.trail.specs.Trail.{value}
use Prim.Native.Nat.{◌+◌, ◌*◌}
use Rattle.propagation.proofs.Rules.{rule-past, rule-false, rule-at}
use Rattle.propagation.proofs.gate_rule.Statement.{statement}
use Rattle.propagation.proofs.gate_rule.Tie as tie

returns : tie.Need-returns-then-work-nodes
returns c = c.tested_rule.ensures

returns-2 : tie.Need-returns-then-nodes-g
returns-2 c = c.tested_rule-then-nodes-g.ensures

returns-3 : tie.Need-returns-then-g-ge1073741823
returns-3 c =
    let a = c.args in
    sym (rule-past a.work.now a.nodes a.g c.if-g-ge1073741823.true)

returns-4 : tie.Need-returns-then-x-eq0
returns-4 c =
    let a = c.args in
    sym (rule-at a.work.now a.nodes a.g c.if-g-ge1073741823.false c.if-nodes-g.false
    ∙ rule-false _ _ _ c.if-o-eq0.true (sym c.held_value-x.ensures ∙ c.if-x-eq0.true))

returns-5 : tie.Need-returns
returns-5 c =
    let a = c.args in
    rw (
      rule-at a.work.now a.nodes a.g c.if-g-ge1073741823.false c.if-nodes-g.false,
      ← c.held_value-x.ensures,
      ← c.held_value-y.ensures,
    ) c.rule.ensures

pub gate_rule_spec : {M : Type 1} → statement M
gate_rule_spec =
    tie.close
    (tie.spec (λ c. search rules) (λ c κs. search rules) returns (λ c κs. search rules) returns-2 returns-3 (λ c. search rules) (λ c. search rules) (λ c. search rules) (λ c. search rules) (λ c. search rules) (λ c. search rules) (λ c κs. search rules) returns-4 (λ c. search rules) (λ c. search rules) (λ c. search rules) (λ c κs. search rules) (λ c κs. search rules) returns-5)
