-- `calls::generate` meets its contract. Assumes nothing.
use mathlib.Core.Path.{sym, ◌∙◌}
use borrow.Author.Rules.{rules}
use borrow.Author.Tests.{not-true, not-false}
use Rattle.call_forms.specs.Table.{generate_row}
use Rattle.call_forms.proofs.Tests.{known, stranger}
use Rattle.calls.proofs.generate.Statement.{statement}
use Rattle.calls.proofs.generate.Tie as tie

returns : tie.Need-returns-then-not-may
returns c = stranger generate_row c.args.user (sym c.may.ensures ∙ c.if-not-may.true)

returns-2 : tie.Need-returns
returns-2 c =
    known generate_row c.args.user (sym c.may.ensures ∙ c.if-not-may.false)
    c.generate.ensures

pub generate_spec : {M : Type 1} → statement M
generate_spec =
    tie.close
    (tie.spec (λ c κs. search rules) returns (λ c κs. search rules) (λ c. search rules) returns-2)
