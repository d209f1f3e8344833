-- `trail::assign` meets its contract. Assumes nothing.
use borrow.Author.Tests.{le-leb, lt-leb}
use Rattle.trail.specs.Trail as S
use mathlib.Core.Path.{refl}
use borrow.Author.Rules.{rules}
use Rattle.trail.proofs.assign.Statement.{statement}
use Rattle.trail.proofs.assign.Tie as tie

returns : tie.Need-returns-then-net-s
unfolding S.assigned
returns c = rw (le-leb _ _ c.if-net-s.true) (record { words = refl; state = refl })

returns-2 : tie.Need-returns
unfolding S.assigned
returns-2 c =
    rw (lt-leb _ _ c.if-net-s.false)
    (record { words = rw (← c.set_node.ensures) c.set_field.ensures; state = refl })

pub assign_spec : {M : Type 1} → statement M
assign_spec =
    tie.close (tie.spec returns (λ c κs. search rules) (λ c κs. search rules) (λ c. search rules) (λ c. search rules) returns-2)
