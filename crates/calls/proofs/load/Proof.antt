-- `calls::load` meets its contract. Assumes nothing.
use mathlib.Core.Path.{sym, ◌∙◌}
use borrow.Author.Rules.{rules}
use borrow.Author.Tests.{not-true, not-false}
use Rattle.call_forms.specs.Table.{load_row}
use Rattle.call_forms.proofs.Tests.{known, stranger}
use Rattle.calls.proofs.load.Statement.{statement}
use Rattle.calls.proofs.load.Tie as tie

returns : tie.Need-returns-then-not-may
returns c = stranger load_row c.args.user (sym c.may.ensures ∙ c.if-not-may.true)

returns-2 : tie.Need-returns
returns-2 c =
    known load_row c.args.user (sym c.may.ensures ∙ c.if-not-may.false)
    (c.load-answer.ensures, c.free_where_accepted.ensures)

pub load_spec : {M : Type 1} → statement M
load_spec =
    tie.close
    (tie.spec (λ c κs. search rules) returns (λ c κs. search rules) (λ c κs. search rules) (λ c. search rules) (λ c. search rules) returns-2)
