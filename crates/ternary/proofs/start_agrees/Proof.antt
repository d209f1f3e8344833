-- `ternary::start_agrees` meets its contract. Assumes nothing.
use mathlib.Core.Path.{◌≡◌, sym, ◌∙◌}
use Rattle.literals.specs.Literal.{word_of}
use Rattle.ternary.proofs.Frames.{start-free, start-one, start-zero, start_none, zero_test}
use borrow.Author.Rules.{rules}
use Rattle.ternary.proofs.start_agrees.Statement.{statement}
use Rattle.ternary.proofs.start_agrees.Tie as tie

returns : tie.Need-returns-then-equals
returns c =
    let a = c.args in
    start-free (word_of a.lit) (word_of a.reset) a.byte (sym c.equals.ensures ∙ c.if-equals.true)

returns-2 : tie.Need-returns-then-byte-eq49
returns-2 c =
    let a = c.args in
    c.is_true.ensures
    ∙ start-one (word_of a.lit) (word_of a.reset) a.byte (sym c.equals.ensures ∙ c.if-equals.false) c.if-byte-eq49.true

returns-3 : tie.Need-returns-then-byte-eq48
returns-3 c =
    let a = c.args in
    c.is_true-then-byte-eq48.ensures ∙ zero_test a.reset c.complement.ensures
    ∙ start-zero (word_of a.lit) (word_of a.reset) a.byte (sym c.equals.ensures ∙ c.if-equals.false) c.if-byte-eq49.false
    c.if-byte-eq48.true

returns-4 : tie.Need-returns
returns-4 c =
    let a = c.args in
    start_none (word_of a.lit) (word_of a.reset) a.byte (sym c.equals.ensures ∙ c.if-equals.false) c.if-byte-eq49.false
    c.if-byte-eq48.false

pub start_agrees_spec : {M : Type 1} → statement M
start_agrees_spec =
    tie.close
    (tie.spec (λ c κs. search rules) returns (λ c κs. search rules) returns-2 (λ c κs. search rules) (λ c κs. search rules) returns-3 returns-4)
