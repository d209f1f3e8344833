-- `settling::through` meets its contract. Assumes nothing.
use borrow.Author.Tests.{eq-eqb, ne_eqb}
use Rattle.settling.specs.Settling as S
use mathlib.Core.Path.{refl}
use borrow.Author.Rules.{rules}
use Rattle.settling.proofs.through.Statement.{statement}
use Rattle.settling.proofs.through.Tie as tie

returns : tie.Need-returns-then-t
unfolding S.through
returns c =
    rw (
      ← c.through_gates-t.ensures.words,
      ← c.through_gates-t.ensures.state,
      ne_eqb _ _ c.if-t.true,
    ) (record { words = refl; state = refl })

returns-2 : tie.Need-returns
unfolding S.through
returns-2 c = rw (← c.through_gates-t.ensures.words, ← c.through_gates-t.ensures.state, ← c.opposite.ensures, eq-eqb _ _ c.if-t.false) (c.visit.ensures)

pub through_spec : {M : Type 1} → statement M
through_spec =
    tie.close
    (tie.spec (λ c κs. search rules) (λ c. search rules) returns (λ c κs. search rules) (λ c κs. search rules) (λ c. search rules) returns-2)
