-- `learning::install` meets its contract. Assumes nothing.
use borrow.Author.Tests.{eq-eqb, ne_eqb}
use Rattle.learning.specs.Learning as Ln
use borrow.Author.Rules.{rules}
use Rattle.learning.proofs.install.Statement.{statement}
use Rattle.learning.proofs.install.Tie as tie

returns : tie.Need-returns-then-n-old
unfolding Ln.installed
returns c = rw (eq-eqb _ _ c.if-n-old.true) (c.forget.ensures)

returns-2 : tie.Need-returns
unfolding Ln.installed
returns-2 c = rw (ne_eqb _ _ c.if-n-old.false) (c.watch.ensures)

pub install_spec : {M : Type 1} → statement M
install_spec =
    tie.close (tie.spec (λ c κs. search rules) (λ c. search rules) returns (λ c κs. search rules) (λ c. search rules) returns-2)
