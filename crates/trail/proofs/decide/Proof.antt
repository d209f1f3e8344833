-- `trail::decide` meets its contract. Assumes nothing.
use borrow.Author.Tests.{le-leb, lt-leb}
use Rattle.trail.specs.Trail as S
use mathlib.Core.Path.{refl}
use borrow.Author.Rules.{rules}
use Rattle.trail.proofs.decide.Statement.{statement}
use Rattle.trail.proofs.decide.Tie as tie

returns : tie.Need-returns-then-net-s
unfolding S.decided
returns c = rw (le-leb _ _ c.if-net-s.true) (record { words = refl; state = refl })

returns-2 : tie.Need-returns
unfolding S.decided
returns-2 c = rw (lt-leb _ _ c.if-net-s.false) c.assign.ensures

pub decide_spec : {M : Type 1} → statement M
decide_spec = tie.close (tie.spec returns (λ c. search rules) (λ c κs. search rules) (λ c. search rules) returns-2)
