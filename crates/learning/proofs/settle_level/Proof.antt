-- `learning::settle_level` meets its contract. Assumes nothing.
use borrow.Author.Tests.{eq-eqb, ne_eqb}
use Rattle.learning.specs.Learning as Ln
use mathlib.Core.Path.{refl}
use borrow.Author.Rules.{rules}
use Rattle.learning.proofs.settle_level.Statement.{statement}
use Rattle.learning.proofs.settle_level.Tie as tie

returns : tie.Need-returns-then-t-eq0
unfolding Ln.settled_level
returns c =
    rw (eq-eqb _ _ c.if-t-eq0.true)
    (record { words = c.settle_all.ensures; search = rw (c.with_order.ensures, c.all_settled.ensures) })

returns-2 : tie.Need-returns
unfolding Ln.settled_level
returns-2 c = rw (ne_eqb _ _ c.if-t-eq0.false) (record { words = refl; search = refl })

pub settle_level_spec : {M : Type 1} → statement M
settle_level_spec =
    tie.close
    (tie.spec (λ c κs. search rules) (λ c κs. search rules) (λ c κs. search rules) (λ c. search rules) returns returns-2)
