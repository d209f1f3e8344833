-- `pinned_runs::settle` meets its contract. Assumes nothing.
use native.Mathlib.Omega.{arith}
use borrow.Author.Rules.{rules}
use Rattle.pinned_runs.proofs.Bytes.{settle-free, settle-either, settle_other}
use Rattle.pinned_runs.proofs.settle.Statement.{statement}
use Rattle.pinned_runs.proofs.settle.Tie as tie

returns : tie.Need-returns-then-pin-gt1
returns c = let a = c.args in settle-free a.pin a.byte (omega arith)

returns-2 : tie.Need-returns-then-byte-eq120
returns-2 c = let a = c.args in settle-either a.pin a.byte (omega arith) (omega arith)

returns-3 : tie.Need-returns
returns-3 c = let a = c.args in settle_other a.pin a.byte (λ e. omega arith)

pub settle_spec : {M : Type 1} → statement M
settle_spec = tie.close (tie.spec returns (λ c. search rules) returns-2 returns-3)
