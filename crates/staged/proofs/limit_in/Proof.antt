-- `staged::limit_in` meets its contract. Assumes nothing.
use native.Mathlib.Omega.{arith}
use borrow.Author.Rules.{rules}
use Rattle.staged.proofs.Turns.{scaled, scaled-most}
use Rattle.staged.proofs.limit_in.Statement.{statement}
use Rattle.staged.proofs.limit_in.Tie as tie

mul-result-2 : tie.Need-overflow_mul-result-2
mul-result-2 c = omega (arith, scaled-most c.args.base c.args.r c.requires.0 c.requires.1)

returns : tie.Need-returns
returns c = (scaled c.args.base c.args.r c.requires.1, scaled-most c.args.base c.args.r c.requires.0 c.requires.1)

pub limit_in_spec : {M : Type 1} → statement M
limit_in_spec =
    tie.close
    (tie.spec (λ c. search rules) (λ c. search rules) mul-result-2 returns)
