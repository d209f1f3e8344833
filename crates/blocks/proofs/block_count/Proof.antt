-- `blocks::block_count` meets its contract. Assumes nothing.
use native.Mathlib.Omega.{arith}
use borrow.Author.Rules.{rules}
use Rattle.blocks.proofs.Words.{one_block, more-blocks}
use Rattle.blocks.proofs.block_count.Statement.{statement}
use Rattle.blocks.proofs.block_count.Tie as tie

returns : tie.Need-returns-then-n-lt7
returns c = one_block c.args.n (omega arith)

returns-2 : tie.Need-returns-else-n-lt7
returns-2 c = more-blocks c.args.n (omega arith)

pub block_count_spec : {M : Type 1} → statement M
block_count_spec = tie.close (tie.spec (λ c. search rules) (λ c. search rules) returns returns-2)
