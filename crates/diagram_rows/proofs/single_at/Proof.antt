-- `diagram_rows::single_at` meets its contract. Assumes nothing.
use mathlib.Core.Path.{refl, sym, ap, ◌∙◌}
use Prim.Native.Nat.{◌+◌, ◌-◌}
use native.Mathlib.Omega.{arith}
use borrow.Author.Rules.{rules}
use Rattle.literals.specs.Literal.{literal}
use Rattle.layout.specs.Words.{word}
use Rattle.diagram_rows.proofs.Read.{word_in, word_out}
use Rattle.diagram_rows.proofs.single_at.Statement.{statement}
use Rattle.diagram_rows.proofs.single_at.Tie as tie

add-from-word : tie.Need-overflow_add-at
add-from-word c = omega (arith, c.if-j-rows.true, c.requires)

mul-from-word : tie.Need-offset_bounds-m-at
mul-from-word c = omega (arith, c.if-j-rows.true, c.requires)

shared-slice-read-from-word : tie.Need-bounds-m-at
shared-slice-read-from-word c = omega (arith, c.if-j-rows.true, c.requires)

returns : tie.Need-returns-then-j-rows
returns c =
    let a = c.args in
    c.from_word.ensures ∙ ap literal (sym (word_in a.j a.rows (word a.m.now (a.at + a.j)) _ c.if-j-rows.true refl))

returns-2 : tie.Need-returns
returns-2 c =
    let a = c.args in
    c.from_word-2.ensures ∙ ap literal (sym (word_out a.j a.rows (word a.m.now (a.at + a.j)) c.if-j-rows.false))

pub single_at_spec : {M : Type 1} → statement M
single_at_spec =
    tie.close
    (tie.spec add-from-word mul-from-word shared-slice-read-from-word (λ c κs. search rules) returns (λ c κs. search rules) returns-2)
