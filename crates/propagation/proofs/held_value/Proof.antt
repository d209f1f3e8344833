-- `propagation::held_value` meets its contract. Assumes nothing.
use mathlib.Core.Path.{sym}
use native.Mathlib.Omega.{arith}
use borrow.Author.Rules.{rules}
use Rattle.propagation.proofs.Rules.{value_none, value-large, value-small}
use Rattle.propagation.proofs.held_value.Statement.{statement}
use Rattle.propagation.proofs.held_value.Tie as tie

returns : tie.Need-returns-then-nodes-v
returns c =
    let a = c.args in
    sym (value_none a.work.now a.nodes a.l c.if-nodes-v.true)

shared-slice-read-x : tie.Need-bounds-work-v
shared-slice-read-x c = omega (arith, c.requires)

returns-2 : tie.Need-returns-then-x-gt1
returns-2 c =
    let a = c.args in
    sym (value-large a.work.now a.nodes a.l c.if-nodes-v.false c.if-x-gt1.true)

returns-3 : tie.Need-returns-else-x-gt1
returns-3 c =
    let a = c.args in
    sym (value-small a.work.now a.nodes a.l c.if-nodes-v.false c.if-x-gt1.false)

pub held_value_spec : {M : Type 1} → statement M
held_value_spec =
    tie.close
    (tie.spec returns (λ c. search rules) (λ c. search rules) (λ c. search rules) (λ c. search rules) shared-slice-read-x (λ c. search rules) returns-2 returns-3)
