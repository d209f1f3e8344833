-- `pinning::inputs_said` meets its contract. Assumes nothing.
use native.Mathlib.Omega.{arith}
use Rattle.pinning.proofs.Free.{said-none, said-some, said_more}
use borrow.Author.Rules.{rules}
use Rattle.pinning.proofs.inputs_said.Statement.{statement}
use Rattle.pinning.proofs.inputs_said.Tie as tie

returns : tie.Need-returns-then-m-lt2
returns c = said-none c.args.m.now (omega arith)

cast-n : tie.Need-overflow_cast-n
cast-n c = omega (arith, c.shared_slice_known-1.given 1)

returns-2 : tie.Need-returns-then-n-le256
returns-2 c = said-some c.args.m.now (omega arith)

returns-3 : tie.Need-returns
returns-3 c = said_more c.args.m.now (omega arith)

pub inputs_said_spec : {M : Type 1} → statement M
inputs_said_spec =
    tie.close
    (tie.spec returns (λ c. search rules) cast-n returns-2 returns-3)
