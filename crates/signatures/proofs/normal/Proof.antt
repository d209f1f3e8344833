-- `signatures::normal` meets its contract. Assumes nothing.
use mathlib.Core.Path.{sym}
use Rattle.signatures.proofs.Buckets.{normal-odd, normal-even}
use Rattle.signatures.proofs.normal.Statement.{statement}
use Rattle.signatures.proofs.normal.Tie as tie

returns : tie.Need-returns-then-s-eq1
returns c = sym (normal-odd c.args.s c.if-s-eq1.true)

returns-2 : tie.Need-returns-else-s-eq1
returns-2 c = sym (normal-even c.args.s c.if-s-eq1.false)

pub normal_spec : {M : Type 1} → statement M
normal_spec = tie.close (tie.spec returns returns-2)
