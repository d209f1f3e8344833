-- `diagram_rows::triple_at` meets its contract. Assumes nothing.
use mathlib.Core.Path.{refl, sym, ap, ◌∙◌}
use Prim.Native.Nat.{◌+◌, ◌-◌, ◌*◌}
use native.Mathlib.Omega.{arith}
use borrow.Author.Rules.{rules}
use Rattle.literals.specs.Literal.{literal}
use Rattle.layout.specs.Words.{word}
use Rattle.diagram_rows.proofs.Read.{word_in, word_out}
use Rattle.diagram_rows.proofs.triple_at.Statement.{statement}
use Rattle.diagram_rows.proofs.triple_at.Tie as tie

mul-from-word : tie.Need-overflow_mul-j
mul-from-word c = omega (arith, c.if-j-rows.true, c.requires.0)

add-from-word : tie.Need-overflow_add-at
add-from-word c = omega (arith, c.if-j-rows.true, c.requires.0)

add-from-word-2 : tie.Need-overflow_add-at-then-j-rows
add-from-word-2 c = omega (arith, c.if-j-rows.true, c.requires.0, c.requires.1)

mul-from-word-2 : tie.Need-offset_bounds-m-at
mul-from-word-2 c = omega (arith, c.if-j-rows.true, c.requires.0, c.requires.1)

shared-slice-read-from-word : tie.Need-bounds-m-at
shared-slice-read-from-word c = omega (arith, c.if-j-rows.true, c.requires.0, c.requires.1)

returns : tie.Need-returns-then-j-rows
returns c =
    let a = c.args in
    c.from_word.ensures ∙ ap literal (sym (word_in a.j a.rows (word a.m.now (a.at + 3 * a.j + a.k)) _ c.if-j-rows.true refl))

returns-2 : tie.Need-returns
returns-2 c =
    let a = c.args in
    c.from_word-2.ensures ∙ ap literal (sym (word_out a.j a.rows (word a.m.now (a.at + 3 * a.j + a.k)) c.if-j-rows.false))

pub triple_at_spec : {M : Type 1} → statement M
triple_at_spec =
    tie.close
    (tie.spec mul-from-word add-from-word add-from-word-2 mul-from-word-2 shared-slice-read-from-word (λ c κs. search rules) returns (λ c κs. search rules) returns-2)
