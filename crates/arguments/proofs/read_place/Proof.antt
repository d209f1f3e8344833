-- `arguments::read_place` meets its contract. Assumes nothing.
use mathlib.Core.Path.{◌∙◌}
use native.Mathlib.Omega.{arith}
use borrow.Author.Rules.{rules}
use Rattle.arguments.proofs.Numbers.{seed-place, not-place}
use Rattle.arguments.proofs.read_place.Statement.{statement}
use Rattle.arguments.proofs.read_place.Tie as tie

returns : tie.Need-returns-then-text-gt19
returns c = not-place _ (omega arith)

returns-2 : tie.Need-returns
returns-2 c = c.read_seed.ensures ∙ seed-place _ (omega arith)

pub read_place_spec : {M : Type 1} → statement M
read_place_spec =
    tie.close
    (tie.spec returns (λ c κs. search rules) returns-2)
