-- `resolve::join` meets its contract. Assumes nothing.
use borrow.Author.Tests.{eq-eqb, ne_eqb}
use Rattle.resolve.specs.Draft as D
use mathlib.Core.Path.{refl}
use borrow.Author.Rules.{rules}
use Rattle.resolve.proofs.join.Statement.{statement}
use Rattle.resolve.proofs.join.Tie as tie

returns : tie.Need-returns-then-l-x
unfolding D.joined
returns c = rw (eq-eqb _ _ c.if-l-x.true) (record { words = refl; draft = refl })

returns-2 : tie.Need-returns
unfolding D.joined
returns-2 c = rw (ne_eqb _ _ c.if-l-x.false) c.include.ensures

pub join_spec : {M : Type 1} → statement M
join_spec = tie.close (tie.spec returns (λ c κs. search rules) (λ c. search rules) returns-2)
