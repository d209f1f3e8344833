-- `gate_order::refresh` meets its contract. Assumes nothing.
use native.Mathlib.Omega.{arith}
use borrow.Author.Rules.{rules}
use Rattle.gate_order.proofs.refresh.Statement.{statement}
use Rattle.gate_order.proofs.refresh.Tie as tie

returns : tie.Need-returns
returns c = rw (← c.count_waits-w.ensures) c.put_count.ensures

pub refresh_spec : {M : Type 1} → statement M
refresh_spec =
    tie.close (tie.spec (λ c κs. search rules) (λ c κs. search rules) (λ c. search rules) (λ c. search rules) returns)
