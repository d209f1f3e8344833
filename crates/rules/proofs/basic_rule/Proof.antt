-- `rules::basic_rule` meets its contract: each answer by the tests that led to it. Assumes nothing.
use mathlib.Core.Path.{◌≡◌, sym, ap, ap₂, ◌∙◌}
use mathlib.Core.Bool.{true, false}
use lib.Dec.{eqb}
use borrow.Author.Rules.{rules}
use borrow.Author.Tests.{eq-eqb, ne_eqb}
use Rattle.nodes.specs.Graph.{node_of}
use Rattle.nodes.specs.Edges.{edge_word}
use Rattle.nodes.specs.declared.Edge.{Edge}
use Rattle.nodes.proofs.Laws.{word-node}
use Rattle.rules.specs.Rules.{basic}
use Rattle.rules.proofs.basic_rule.Statement.{statement}
use Rattle.rules.proofs.basic_rule.Tie as tie

returns : tie.Need-returns-then-equals
unfolding basic
returns c = rw (sym c.equals.ensures ∙ c.if-equals.true)

returns-2 : tie.Need-returns-then-equals-2
unfolding basic
returns-2 c =
    let a = c.args in
    let truth : eqb (edge_word a.right) 1 ≡ true =
    ap (λ (e : Edge). eqb (edge_word a.right) (edge_word e)) (sym c.complement.ensures) ∙ sym c.equals-2.ensures ∙ c.if-equals-2.true in
    rw (sym c.equals.ensures ∙ c.if-equals.false, truth)

returns-3 : tie.Need-returns-then-equals-3
unfolding basic
returns-3 c =
    let a = c.args in
    let truth : eqb (edge_word a.right) 1 ≡ false =
    ap (λ (e : Edge). eqb (edge_word a.right) (edge_word e)) (sym c.complement.ensures) ∙ sym c.equals-2.ensures ∙ c.if-equals-2.false in
    rw (sym c.equals.ensures ∙ c.if-equals.false, truth, sym c.equals-3.ensures ∙ c.if-equals-3.true)

returns-4 : tie.Need-returns-then-left-right
unfolding basic
returns-4 c =
    let a = c.args in
    let truth : eqb (edge_word a.right) 1 ≡ false =
    ap (λ (e : Edge). eqb (edge_word a.right) (edge_word e)) (sym c.complement.ensures) ∙ sym c.equals-2.ensures ∙ c.if-equals-2.false in
    let node : eqb (node_of (edge_word a.left)) (node_of (edge_word a.right)) ≡ true =
    ap₂ eqb (word-node a.left) (word-node a.right) ∙ eq-eqb a.left.0.0 a.right.0.0 c.if-left-right.true in
    rw (sym c.equals.ensures ∙ c.if-equals.false, truth, sym c.equals-3.ensures ∙ c.if-equals-3.false, node)

returns-5 : tie.Need-returns
unfolding basic
returns-5 c =
    let a = c.args in
    let truth : eqb (edge_word a.right) 1 ≡ false =
    ap (λ (e : Edge). eqb (edge_word a.right) (edge_word e)) (sym c.complement.ensures) ∙ sym c.equals-2.ensures ∙ c.if-equals-2.false in
    let node : eqb (node_of (edge_word a.left)) (node_of (edge_word a.right)) ≡ false =
    ap₂ eqb (word-node a.left) (word-node a.right) ∙ ne_eqb a.left.0.0 a.right.0.0 c.if-left-right.false in
    rw (sym c.equals.ensures ∙ c.if-equals.false, truth, sym c.equals-3.ensures ∙ c.if-equals-3.false, node)

pub basic_rule_spec : {M : Type 1} → statement M
basic_rule_spec =
    tie.close
    (tie.spec (λ c κs. search rules) returns (λ c κs. search rules) (λ c κs. search rules) returns-2 (λ c κs. search rules) returns-3 returns-4 returns-5)
