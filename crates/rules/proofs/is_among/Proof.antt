-- `rules::is_among` meets its contract. Assumes nothing.
use mathlib.Core.Path.{ap₂}
use mathlib.Core.Bool.{Bool, ◌||◌}
use borrow.Author.Rules.{rules}
use Rattle.rules.proofs.is_among.Statement.{statement}
use Rattle.rules.proofs.is_among.Tie as tie

returns : tie.Need-returns
returns c = ap₂ (λ (x y : Bool). x || y) c.equals.ensures c.equals-2.ensures

pub is_among_spec : {M : Type 1} → statement M
is_among_spec = tie.close (tie.spec (λ c κs. search rules) (λ c κs. search rules) returns)
