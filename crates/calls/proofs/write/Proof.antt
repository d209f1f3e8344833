-- `calls::write` meets its contract. Assumes nothing.
use mathlib.Core.Path.{sym, ◌∙◌}
use borrow.Author.Rules.{rules}
use borrow.Author.Tests.{not-true, not-false}
use Rattle.call_forms.proofs.Tests.{write_known, write-refused}
use Rattle.calls.proofs.write.Statement.{statement}
use Rattle.calls.proofs.write.Tie as tie

returns : tie.Need-returns-then-not-may
returns c =
    let a = c.args in
    write-refused a.user a.form a.out.now (sym c.may.ensures ∙ c.if-not-may.true)

returns-2 : tie.Need-returns
returns-2 c =
    let a = c.args in
    write_known a.user (sym c.may.ensures ∙ c.if-not-may.false) a.form c.write.ensures

pub write_spec : {M : Type 1} → statement M
write_spec =
    tie.close
    (tie.spec (λ c κs. search rules) returns (λ c κs. search rules) (λ c. search rules) returns-2)
