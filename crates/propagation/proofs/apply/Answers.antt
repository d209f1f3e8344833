-- `propagation::apply` meets its contract. Assumes nothing.
use mathlib.Core.Path.{refl}
use Rattle.propagation.specs.Gates as G
use Rattle.propagation.proofs.apply.Goals as goal

pub returns-in-LeftViolated : goal.returns-in-LeftViolated
unfolding G.applied
returns-in-LeftViolated c = rw c.in-LeftViolated.is (record { words = refl; state = c.violated.ensures })

pub returns-in-RightViolated : goal.returns-in-RightViolated
unfolding G.applied
returns-in-RightViolated c = rw c.in-RightViolated.is (record { words = refl; state = c.violated-in-RightViolated.ensures })

pub returns-in-BothViolated : goal.returns-in-BothViolated
unfolding G.applied
returns-in-BothViolated c = rw c.in-BothViolated.is (record { words = refl; state = c.violated-in-BothViolated.ensures })

pub returns-in-LeftTrue : goal.returns-in-LeftTrue
unfolding G.applied
returns-in-LeftTrue c = rw (c.in-LeftTrue.is, ← c.field-l.ensures) c.assign.ensures

pub returns-in-RightTrue : goal.returns-in-RightTrue
unfolding G.applied
returns-in-RightTrue c = rw (c.in-RightTrue.is, ← c.field-l-in-RightTrue.ensures) c.assign-in-RightTrue.ensures

pub returns-in-RightFalse : goal.returns-in-RightFalse
unfolding G.applied
returns-in-RightFalse c = rw (c.in-RightFalse.is, ← c.field.ensures, ← c.opposite-l.ensures) c.assign-in-RightFalse.ensures

pub returns-in-LeftFalse : goal.returns-in-LeftFalse
unfolding G.applied
returns-in-LeftFalse c = rw (c.in-LeftFalse.is, ← c.field-in-LeftFalse.ensures, ← c.opposite-l-in-LeftFalse.ensures) c.assign-in-LeftFalse.ensures

pub returns-in-FalseByLeft : goal.returns-in-FalseByLeft
unfolding G.applied
returns-in-FalseByLeft c = rw c.in-FalseByLeft.is c.assign-in-FalseByLeft.ensures

pub returns-in-FalseByRight : goal.returns-in-FalseByRight
unfolding G.applied
returns-in-FalseByRight c = rw c.in-FalseByRight.is c.assign-in-FalseByRight.ensures

pub returns-in-True : goal.returns-in-True
unfolding G.applied
returns-in-True c = rw c.in-True.is c.assign-in-True.ensures
