-- `learning::watch` meets its contract. Assumes nothing.
use borrow.Author.Tests.{eq-eqb, le-leb, lt-leb, ne_eqb}
use Rattle.learning.specs.Learning as Ln
use mathlib.Core.Path.{refl}
use borrow.Author.Rules.{rules}
use Rattle.learning.proofs.watch.Statement.{statement}
use Rattle.learning.proofs.watch.Tie as tie

returns : tie.Need-returns-then-n-eq0
unfolding Ln.watched
returns c = rw (eq-eqb _ _ c.if-n-eq0.true) (record { words = refl; search = refl })

returns-2 : tie.Need-returns-then-n-ge1073741823
unfolding Ln.watched
returns-2 c = rw (ne_eqb _ _ c.if-n-eq0.false, le-leb _ _ c.if-n-ge1073741823.true) (record { words = refl; search = refl })

returns-3 : tie.Need-returns
unfolding Ln.watched
returns-3 c = rw (← c.attach.ensures, ← c.attach-2.ensures, ne_eqb _ _ c.if-n-eq0.false, lt-leb _ _ c.if-n-ge1073741823.false) (c.assert.ensures)

pub watch_spec : {M : Type 1} → statement M
watch_spec =
    tie.close
    (tie.spec returns returns-2 (λ c. search rules) (λ c κs. search rules) (λ c. search rules) (λ c κs. search rules) (λ c. search rules) (λ c. search rules) (λ c. search rules) (λ c κs. search rules) (λ c. search rules) returns-3)
