-- `pinned_runs::agrees` meets its contract. Assumes nothing.
use native.Mathlib.Omega.{arith}
use Rattle.pinned_runs.proofs.Bytes.{agree-free, agree-either, agree-one, agree-zero}
use Rattle.pinned_runs.proofs.agrees.Statement.{statement}
use Rattle.pinned_runs.proofs.agrees.Tie as tie

returns : tie.Need-returns-then-pin-gt1
returns c = let a = c.args in agree-free a.loose a.pin a.byte (omega arith)

returns-2 : tie.Need-returns-then-byte-eq120
returns-2 c = let a = c.args in agree-either a.loose a.pin a.byte (omega arith) (omega arith)

returns-3 : tie.Need-returns-then-byte-eq49
returns-3 c = let a = c.args in agree-one a.loose a.pin a.byte (omega arith) (λ e. omega arith) (omega arith)

returns-4 : tie.Need-returns
returns-4 c = let a = c.args in agree-zero a.loose a.pin a.byte (omega arith) (λ e. omega arith) (λ e. omega arith)

pub agrees_spec : {M : Type 1} → statement M
agrees_spec = tie.close (tie.spec returns returns-2 returns-3 returns-4)
