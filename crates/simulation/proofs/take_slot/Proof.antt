use native.Mathlib.Omega.{arith}
use Rattle.simulation.proofs.Slots.{taken_none, taken-one, taken-over}
use borrow.Author.Rules.{rules}
use Rattle.simulation.proofs.take_slot.Statement.{statement}
use Rattle.simulation.proofs.take_slot.Tie as tie
use Rattle.simulation.proofs.take_slot.Reads as reads
use Rattle.simulation.proofs.take_slot.Lts as lts

returns : tie.Need-returns-then-mark-eq0
returns c = let a = c.args in taken_none a.slots.now a.r a.v a.mark (omega arith)

returns-2 : tie.Need-returns-then-r-lt32
returns-2 c = let a = c.args in taken-one a.slots.now a.r a.v a.mark (λ e. omega arith) (omega arith)

returns-3 : tie.Need-returns
returns-3 c = let a = c.args in taken-over a.slots.now a.r a.v a.mark (λ e. omega arith) (λ e. omega arith)

pub take_slot_spec : {M : Type 1} → statement M
take_slot_spec =
    tie.close
    (tie.spec returns (λ c. search rules) (λ c. search rules) (λ c. search rules) (λ c. search rules) returns-2 (λ c. search rules) returns-3)
