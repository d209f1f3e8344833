-- `set_table::reset_word` meets its contract. Assumes nothing.
use mathlib.Core.Path.{sym, ◌∙◌}
use mathlib.Core.Bool.{true, false}
use native.Mathlib.Omega.{arith}
use borrow.Author.Rules.{rules}
use Rattle.layout.specs.Words.{circuit_in}
use Rattle.diagram_rows.proofs.Read.{latches-fit}
use Rattle.set_table.proofs.Resets.{one-test, reset-free, reset-given}
use Rattle.set_table.proofs.reset_word.Statement.{statement}
use Rattle.set_table.proofs.reset_word.Tie as tie

returns : tie.Need-returns-then-is_free
returns c =
    let a = c.args in
    (reset-free (circuit_in a.m.now) a.j (sym c.is_free.ensures ∙ c.if-is_free.true), omega arith)

triple-at-requires : tie.Need-triple_at-reset-requires
triple-at-requires c κs = (latches-fit c.requires, omega arith)

returns-2 : tie.Need-returns-then-is_true
returns-2 c =
    let a = c.args in (
      reset-given (circuit_in a.m.now) a.j (sym c.is_free.ensures ∙ c.if-is_free.false) true
          (sym (one-test c.requires a.j c.triple_at-reset.result c.triple_at-reset.ensures) ∙ sym c.is_true.ensures ∙ c.if-is_true.true),
      omega arith,
    )

returns-3 : tie.Need-returns-else-is_true
returns-3 c =
    let a = c.args in (
      reset-given (circuit_in a.m.now) a.j (sym c.is_free.ensures ∙ c.if-is_free.false) false
          (sym (one-test c.requires a.j c.triple_at-reset.result c.triple_at-reset.ensures) ∙ sym c.is_true.ensures ∙ c.if-is_true.false),
      omega arith,
    )

pub reset_word_spec : {M : Type 1} → statement M
reset_word_spec =
    tie.close
    (tie.spec (λ c κs. search rules) returns triple-at-requires (λ c κs. search rules) returns-2 returns-3)
