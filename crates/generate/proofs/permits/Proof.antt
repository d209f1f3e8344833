-- `generate::permits` meets its contract: the counts one by one, and then their sums. Assumes nothing.
use mathlib.Core.Path.{◌≡◌, sym, ◌∙◌}
use mathlib.Core.Bool.{Bool, true, false, ◌&&◌}
use Prim.Native.Nat.{ℕ, ◌+◌, ◌≤◌}
use native.Mathlib.Omega.{arith}
use borrow.Author.Rules.{rules}
use borrow.Author.Tests.{not-true, not-false}
use lib.Dec.{leb}
use Rattle.generated.specs.Generated.{few_enough}
use Rattle.generate.proofs.Answers.{few-facts}
use Rattle.generate.proofs.permits.Statement.{statement}
use Rattle.generate.proofs.permits.Tie as tie

returns : tie.Need-returns-then-not-few_enough
returns c = rw (sym c.few_enough.ensures ∙ c.if-not-few_enough.true)

add-result : tie.Need-overflow_add-result
add-result c = omega (arith, few-facts c.args.i c.args.l c.args.a (sym c.few_enough.ensures ∙ c.if-not-few_enough.false))

add-result-2 : tie.Need-overflow_add-result-2
add-result-2 c = omega (arith, few-facts c.args.i c.args.l c.args.a (sym c.few_enough.ensures ∙ c.if-not-few_enough.false))

add-result-3 : tie.Need-overflow_add-result-3
add-result-3 c = omega (arith, few-facts c.args.i c.args.l c.args.a (sym c.few_enough.ensures ∙ c.if-not-few_enough.false))

returns-2 : tie.Need-returns
returns-2 c = rw (sym c.few_enough.ensures ∙ c.if-not-few_enough.false)

pub permits_spec : {M : Type 1} → statement M
permits_spec =
    tie.close
    (tie.spec (λ c κs. search rules) returns add-result add-result-2 add-result-3 returns-2)
