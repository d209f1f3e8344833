-- `calls::waveform` meets its contract. Assumes nothing.
use mathlib.Core.Path.{sym, ◌∙◌}
use borrow.Author.Rules.{rules}
use borrow.Author.Tests.{not-true, not-false}
use Rattle.call_forms.specs.Table.{waveform_row}
use Rattle.call_forms.proofs.Tests.{known, stranger}
use Rattle.calls.proofs.waveform.Statement.{statement}
use Rattle.calls.proofs.waveform.Tie as tie

returns : tie.Need-returns-then-not-may
returns c = stranger waveform_row c.args.user (sym c.may.ensures ∙ c.if-not-may.true)

returns-2 : tie.Need-returns
returns-2 c =
    known waveform_row c.args.user (sym c.may.ensures ∙ c.if-not-may.false)
    c.waveform.ensures

pub waveform_spec : {M : Type 1} → statement M
waveform_spec =
    tie.close
    (tie.spec (λ c κs. search rules) returns (λ c κs. search rules) (λ c. search rules) returns-2)
