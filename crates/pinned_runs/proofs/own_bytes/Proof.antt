-- `pinned_runs::own_bytes` meets its contract. Assumes nothing.
use native.Mathlib.Omega.{arith}
use borrow.Author.Rules.{rules}
use Rattle.pinned_runs.proofs.Lengths.{own-none, own-some, own-all}
use Rattle.pinned_runs.proofs.own_bytes.Statement.{statement}
use Rattle.pinned_runs.proofs.own_bytes.Tie as tie

returns : tie.Need-returns-then-len-start
returns c = let a = c.args in own-none a.len a.user (omega arith)

returns-2 : tie.Need-returns-then-len-start-le256
returns-2 c = let a = c.args in own-some a.len a.user (omega arith) (omega arith)

returns-3 : tie.Need-returns
returns-3 c = let a = c.args in own-all a.len a.user (omega arith) (omega arith)

pub own_bytes_spec : {M : Type 1} → statement M
own_bytes_spec = tie.close (tie.spec (λ c. search rules) returns (λ c. search rules) returns-2 (λ c. search rules) returns-3)
