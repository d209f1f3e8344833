-- Clause 12.7: user 0 alone may replace the circuit, and both users may do everything else. Assumes nothing.
use mathlib.Core.List.{List}
use Prim.Native.Nat.{ℕ}
use lib.Dec.{T, eqb}
use Rattle.aiger.specs.Lists.{every}
use Rattle.call_forms.specs.Table.{Changes, Row, operations}

abbrev last_user : Changes → ℕ
last_user Changes.nothing = 1
last_user Changes.own_pins = 1
last_user Changes.circuit = 0

pub permissions : T (every (λ (r : Row). eqb r.last (last_user r.changes)) operations)
permissions = tt
