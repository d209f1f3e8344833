-- `test_literals` meets its contract: its three passes are the tests of cause 6.
-- Assumes nothing.
use Rattle.std.proofs.lemmas.Bool.{not_from_true}
use Rattle.std.proofs.lemmas.Bool.{not_from_false}
use Rattle.variables.proofs.Wholes.{literals-all}
use Rattle.variables.proofs.Causes.{literals-definitions, literals-used}
use borrow.Author.Tests.{not-true, not-false}
use borrow.Author.Rules.{rules}
use Rattle.variables.proofs.test_literals.Statement.{statement}
use Rattle.variables.proofs.test_literals.Tie as tie

returns : tie.Need-returns-then-not-define_all
returns c =
    λ right. (rw (not-true c.define_all.result (not_from_false _ c.if-not-define_all.true)) at c.define_all.ensures) (literals-definitions _ right)

returns-2 : tie.Need-returns-then-not-used_bounded
returns-2 c =
    λ right. (rw (not-true c.used_bounded.result (not_from_false _ c.if-not-used_bounded.true)) at c.used_bounded.ensures) (literals-used _ right)

returns-3 : tie.Need-returns
returns-3 c =
    literals-all _ c.define_all.new.table
    (rw (not-false c.define_all.result (not_from_true _ c.if-not-define_all.false)) at c.define_all.ensures)
    (rw (not-false c.used_bounded.result (not_from_true _ c.if-not-used_bounded.false)) at c.used_bounded.ensures)
    c.resets.result c.resets.ensures

pub test_literals_spec : {M : Type 1} → statement M
test_literals_spec =
    tie.close
    (tie.spec (λ c κs. search rules) (λ c. search rules) returns (λ c κs. search rules) (λ c. search rules) returns-2 (λ c κs. search rules) (λ c. search rules) returns-3)
