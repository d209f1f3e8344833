-- `watches::close` meets its contract. Assumes nothing.
use borrow.Author.Tests.{eq-eqb, ne_eqb}
use Rattle.watches.specs.Watch as W
use mathlib.Core.Path.{refl}
use borrow.Author.Rules.{rules}
use Rattle.watches.proofs.close.Statement.{statement}
use Rattle.watches.proofs.close.Tie as tie

returns : tie.Need-returns-then-value-eq0
unfolding W.closed
returns c = rw (← c.value.ensures, eq-eqb _ _ c.if-value-eq0.true) (record { words = refl; state = refl })

returns-2 : tie.Need-returns
unfolding W.closed
returns-2 c = rw (
  ← c.value.ensures,
  ← c.pass-u.ensures,
  ne_eqb _ _ c.if-value-eq0.false,
) c.assign.ensures

pub close_spec : {M : Type 1} → statement M
close_spec =
    tie.close
    (tie.spec (λ c κs. search rules) (λ c. search rules) (λ c. search rules) (λ c. search rules) returns (λ c κs. search rules) (λ c. search rules) (λ c. search rules) (λ c κs. search rules) (λ c. search rules) returns-2)
