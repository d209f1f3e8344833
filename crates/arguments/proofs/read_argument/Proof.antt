-- `arguments::read_argument` meets its contract. Assumes nothing.
use mathlib.Core.Path.{◌∙◌}
use native.Mathlib.Omega.{arith}
use borrow.Author.Rules.{rules}
use Rattle.arguments.proofs.Numbers.{seed-number, not-number}
use Rattle.arguments.proofs.read_argument.Statement.{statement}
use Rattle.arguments.proofs.read_argument.Tie as tie

returns : tie.Need-returns-then-text-gt10
returns c = not-number _ (omega arith)

returns-2 : tie.Need-returns
returns-2 c = c.read_seed.ensures ∙ seed-number _ (omega arith)

pub read_argument_spec : {M : Type 1} → statement M
read_argument_spec =
    tie.close
    (tie.spec returns (λ c κs. search rules) returns-2)
