-- `rules::lower_rule` meets its contract: each answer by the tests that led to it. Assumes nothing.
use mathlib.Core.Path.{◌≡◌, sym, ap, ◌∙◌}
use mathlib.Core.Bool.{Bool}
use borrow.Author.Rules.{rules}
use Rattle.aiger.specs.Fold.{complement, among}
use Rattle.nodes.specs.Edges.{edge_word, opposite}
use Rattle.nodes.specs.declared.Edge.{Edge}
use Rattle.nodes.proofs.Laws.{word-sign, word-opposite}
use Rattle.rules.proofs.Rules.{lower-absorbed, lower-contradicted, lower-complement, lower-implied, lower-new}
use Rattle.rules.proofs.lower_rule.Statement.{statement}
use Rattle.rules.proofs.lower_rule.Tie as tie

-- the complement of right is looked for
looked-for : (first second right other : Edge) (b : Bool) → other ≡ opposite right → b ≡ among (edge_word first) (edge_word second) (edge_word other)
    → b ≡ among (edge_word first) (edge_word second) (complement (edge_word right))
looked-for first second right other b q e =
    e ∙ ap (λ (x : Edge). among (edge_word first) (edge_word second) (edge_word x)) q
    ∙ sym (ap (among (edge_word first) (edge_word second)) (word-opposite right))

returns : tie.Need-returns-then-is_complement
returns c =
    let a = c.args in
    lower-absorbed (edge_word a.first) (edge_word a.second) (edge_word a.left) (edge_word a.right)
    (looked-for a.first a.second a.right _ _ c.complement.ensures c.is_among.ensures) c.if-is_among.true
    (word-sign a.left ∙ sym c.is_complement.ensures ∙ c.if-is_complement.true)

returns-2 : tie.Need-returns-then-is_among
returns-2 c =
    let a = c.args in
    lower-contradicted (edge_word a.first) (edge_word a.second) (edge_word a.left) (edge_word a.right)
    (looked-for a.first a.second a.right _ _ c.complement.ensures c.is_among.ensures) c.if-is_among.true
    (word-sign a.left ∙ sym c.is_complement.ensures ∙ c.if-is_complement.false)

returns-3 : tie.Need-returns-then-is_complement-2
returns-3 c =
    let a = c.args in
    lower-complement (edge_word a.first) (edge_word a.second) (edge_word a.left) (edge_word a.right)
    (looked-for a.first a.second a.right _ _ c.complement.ensures c.is_among.ensures) c.if-is_among.false
    (word-sign a.left ∙ sym c.is_complement-2.ensures ∙ c.if-is_complement-2.true)

returns-4 : tie.Need-returns-then-is_among-2
returns-4 c =
    let a = c.args in
    lower-implied (edge_word a.first) (edge_word a.second) (edge_word a.left) (edge_word a.right)
    (looked-for a.first a.second a.right _ _ c.complement.ensures c.is_among.ensures) c.if-is_among.false
    (word-sign a.left ∙ sym c.is_complement-2.ensures ∙ c.if-is_complement-2.false) c.is_among-2.ensures c.if-is_among-2.true

returns-5 : tie.Need-returns
returns-5 c =
    let a = c.args in
    lower-new (edge_word a.first) (edge_word a.second) (edge_word a.left) (edge_word a.right)
    (looked-for a.first a.second a.right _ _ c.complement.ensures c.is_among.ensures) c.if-is_among.false
    (word-sign a.left ∙ sym c.is_complement-2.ensures ∙ c.if-is_complement-2.false) c.is_among-2.ensures c.if-is_among-2.false

pub lower_rule_spec : {M : Type 1} → statement M
lower_rule_spec =
    tie.close
    (tie.spec (λ c κs. search rules) (λ c κs. search rules) (λ c κs. search rules) returns returns-2 (λ c κs. search rules) returns-3 (λ c κs. search rules) returns-4 returns-5)
