-- `calls::search` meets its contract. Assumes nothing.
use mathlib.Core.Path.{sym, ◌∙◌}
use borrow.Author.Rules.{rules}
use borrow.Author.Tests.{not-true, not-false}
use Rattle.call_forms.specs.Table.{search_row}
use Rattle.call_forms.proofs.Tests.{known, stranger}
use borrow.Author.Tests.{leb-true}
use Rattle.calls.proofs.search.Statement.{statement}
use Rattle.calls.proofs.search.Tie as tie

returns : tie.Need-returns-then-not-may
returns c = stranger search_row c.args.user (sym c.may.ensures ∙ c.if-not-may.true)

search-requires : tie.Need-search-requires
search-requires c κs = leb-true c.args.user 1 (sym c.may.ensures ∙ c.if-not-may.false)

returns-2 : tie.Need-returns
returns-2 c =
    known search_row c.args.user (sym c.may.ensures ∙ c.if-not-may.false)
    c.search.ensures

pub search_spec : {M : Type 1} → statement M
search_spec =
    tie.close
    (tie.spec (λ c κs. search rules) returns search-requires (λ c. search rules) (λ c. search rules) returns-2)
