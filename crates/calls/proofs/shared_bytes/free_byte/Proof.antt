-- `calls::shared_bytes::free_byte` meets its contract. Assumes nothing.
use native.Mathlib.Omega.{arith}
use borrow.Author.Tests.{lt-ltb, le-ltb}
use Rattle.calls.proofs.shared_bytes.free_byte.Statement.{statement}
use Rattle.calls.proofs.shared_bytes.free_byte.Tie as tie

returns : tie.Need-returns-then-i-lt512
returns c = rw (lt-ltb c.args.i 512 (omega arith))

returns-2 : tie.Need-returns
returns-2 c = rw (le-ltb c.args.i 512 (omega arith))

pub free_byte_spec : {M : Type 1} → statement M
free_byte_spec = tie.close (tie.spec returns returns-2)
