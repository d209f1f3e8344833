-- `calls::fold` meets its contract. Assumes nothing.
use mathlib.Core.Path.{sym, ◌∙◌}
use borrow.Author.Rules.{rules}
use borrow.Author.Tests.{not-true, not-false}
use Rattle.call_forms.specs.Table.{fold_row}
use Rattle.call_forms.proofs.Tests.{known, stranger}
use borrow.Author.Tests.{leb-true}
use Rattle.calls.proofs.fold.Statement.{statement}
use Rattle.calls.proofs.fold.Tie as tie

returns : tie.Need-returns-then-not-may
returns c = stranger fold_row c.args.user (sym c.may.ensures ∙ c.if-not-may.true)

fold-requires : tie.Need-fold-requires
fold-requires c κs = leb-true c.args.user 1 (sym c.may.ensures ∙ c.if-not-may.false)

returns-2 : tie.Need-returns
returns-2 c =
    known fold_row c.args.user (sym c.may.ensures ∙ c.if-not-may.false)
    c.fold.ensures

pub fold_spec : {M : Type 1} → statement M
fold_spec =
    tie.close
    (tie.spec (λ c κs. search rules) returns fold-requires (λ c. search rules) (λ c. search rules) returns-2)
