-- What `check` answers: the first cause from 6 to 8, or an order of evaluation. Assumes nothing.
use Rattle.std.specs.Prelude.{◌≡◌, Result, Ok, Err, List, ℕ, length, drop, replicate}
use Rattle.aiger.specs.Circuit.{Circuit, literals_right, used_defined, acyclic}
use Rattle.aiger.specs.Load.{Answer, refused, gives, test, ◌>>◌}
use Rattle.layout.specs.Order.{Ordered}
use Rattle.refusals.specs.Refusals.{number_of}
use Rattle.refusals.specs.declared.Refusal.{Refusal}

-- the first cause from 6 to 8
unfoldable pub judged : Circuit → Answer (Unit {0})
judged c = test 6 (literals_right c) >> test 7 (used_defined c) >> test 8 (acyclic c)

-- the answer is right
abbrev pub Checks : Circuit → List ℕ → Result (Unit {0}) Refusal → Type 0
Checks c order (Ok u) = (judged c ≡ gives tt) × Ordered c order
Checks c order (Err e) = judged c ≡ refused (number_of e)

-- the order is after the circuit's gates as it was, where no cause refuses; else it is all 0
abbrev pub OrderLeft : Circuit → List ℕ → List ℕ → Result (Unit {0}) Refusal → Type 0
OrderLeft c old order (Ok u) = drop (length c.gates) order ≡ drop (length c.gates) old
OrderLeft c old order (Err e) = order ≡ replicate (length old) 0
