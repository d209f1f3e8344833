-- `load::judge_circuit` meets its contract. Assumes nothing.
use mathlib.Core.Path.{refl}
use Rattle.load.proofs.Finishing.{accepts-refused, accepts-right}
use Rattle.load.proofs.judge_circuit.Goals as goal

pub returns-in-Err : goal.returns-in-Err
returns-in-Err c = rw c.number.ensures (accepts-refused _ (rw c.in-Err.is at c.check.ensures.0))

pub returns-in-Ok : goal.returns-in-Ok
returns-in-Ok c = (refl, accepts-right _ (rw c.in-Ok.is at c.check.ensures.0).0)
