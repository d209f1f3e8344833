-- `headers::counts_fit` meets its contract: the limits keep the sum from wrapping. Assumes nothing.
use mathlib.Core.Path.{◌≡◌, sym, ◌∙◌}
use mathlib.Core.Bool.{true}
use native.Mathlib.Omega.{arith}
use Rattle.headers.specs.Header.{limits_hold}
use Rattle.headers.proofs.Heading.{bounded, limits-hold, limits-fail}
use borrow.Author.Rules.{rules}
use Rattle.headers.proofs.counts_fit.Statement.{statement}
use Rattle.headers.proofs.counts_fit.Tie as tie

held : (t : tie.Then-within_limits) → limits_hold t.args.c ≡ true
held t = sym t.within_limits.ensures ∙ t.if-within_limits.true

add-result : tie.Need-overflow_add-result
add-result c = omega (arith, bounded c.args.c (held c.before))

add-result-2 : tie.Need-overflow_add-result-then-within_limits
add-result-2 c = omega (arith, bounded c.args.c (held c.before.before))

returns : tie.Need-returns-then-within_limits
returns c = limits-hold _ (held c.before.before.before)

returns-2 : tie.Need-returns
returns-2 c = limits-fail _ (sym c.within_limits.ensures ∙ c.if-within_limits.false)

pub counts_fit_spec : {M : Type 1} → statement M
counts_fit_spec =
    tie.close (tie.spec (λ c κs. search rules) add-result add-result-2 returns returns-2)
