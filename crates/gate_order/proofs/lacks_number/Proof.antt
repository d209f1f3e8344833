-- `gate_order::lacks_number` meets its contract. Assumes nothing.
use native.Mathlib.Omega.{arith}
use borrow.Author.Rules.{rules}
use Rattle.gate_order.proofs.Counts.{lacks-constant, lacks-none, lacks-some}
use Rattle.gate_order.proofs.lacks_number.Statement.{statement}
use Rattle.gate_order.proofs.lacks_number.Tie as tie

returns : tie.Need-returns-then-v-eq0
returns c = lacks-constant c.args.table.now c.args.v c.if-v-eq0.true

returns-2 : tie.Need-returns-then-table-v-eq0
returns-2 c = lacks-none c.args.table.now c.args.v c.if-v-eq0.false c.if-table-v-eq0.true

returns-3 : tie.Need-returns
returns-3 c = lacks-some c.args.table.now c.args.v c.if-v-eq0.false c.if-table-v-eq0.false

pub lacks_number_spec : {M : Type 1} → statement M
lacks_number_spec = tie.close (tie.spec returns (λ c. search rules) (λ c. search rules) returns-2 returns-3)
