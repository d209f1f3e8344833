-- `panel_lines::read_form` meets its contract. Assumes nothing.
use mathlib.Core.Path.{sym, ◌∙◌}
use native.Mathlib.Omega.{arith}
use Rattle.panel_lines.specs.Reading.{bytes_of}
use Rattle.panel_lines.proofs.Commands.{form-binary, form-number}
use borrow.Author.Rules.{rules}
use Rattle.panel_lines.proofs.read_form.Statement.{statement}
use Rattle.panel_lines.proofs.read_form.Tie as tie

returns : tie.Need-returns-then-is_word
returns c =
    let a = c.args in
    form-binary (bytes_of a.request.now a.part) (sym c.if-is_word.true ∙ c.is_word.ensures)

sub-read-argument : tie.Need-slice_bounds-read_argument-count
sub-read-argument c = c.requires.forward

part-read-argument-start : tie.Need-slice_bounds-read_argument-start
part-read-argument-start c = omega (arith, c.requires.forward, c.requires.within)

part-read-argument-end : tie.Need-slice_bounds-read_argument-end
part-read-argument-end c = c.requires.within

returns-2 : tie.Need-returns
returns-2 c =
    let a = c.args in
    form-number (bytes_of a.request.now a.part) (sym c.if-is_word.false ∙ c.is_word.ensures) c.read_argument.ensures

pub read_form_spec : {M : Type 1} → statement M
read_form_spec =
    tie.close
    (tie.spec (λ c. search rules) returns sub-read-argument part-read-argument-start part-read-argument-end (λ c κs. search rules) returns-2)
