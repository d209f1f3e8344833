-- `calls::join` meets its contract. Assumes nothing.
use mathlib.Core.Path.{sym, ◌∙◌}
use borrow.Author.Rules.{rules}
use borrow.Author.Tests.{not-true, not-false}
use Rattle.call_forms.specs.Table.{join_row}
use Rattle.call_forms.proofs.Tests.{known, stranger}
use Rattle.calls.proofs.join.Statement.{statement}
use Rattle.calls.proofs.join.Tie as tie

returns : tie.Need-returns-then-not-may
returns c = stranger join_row c.args.user (sym c.may.ensures ∙ c.if-not-may.true)

returns-2 : tie.Need-returns
returns-2 c =
    known join_row c.args.user (sym c.may.ensures ∙ c.if-not-may.false)
    (c.join-answer.ensures, c.free_where_accepted.ensures)

pub join_spec : {M : Type 1} → statement M
join_spec =
    tie.close
    (tie.spec (λ c κs. search rules) returns (λ c κs. search rules) (λ c κs. search rules) (λ c. search rules) (λ c. search rules) returns-2)
