-- `headers::counts_right` meets its contract: counts that fit have a sum that does not wrap. Assumes nothing.
use mathlib.Core.Path.{◌≡◌, sym, ◌∙◌}
use mathlib.Core.Bool.{true}
use native.Mathlib.Omega.{arith}
use Rattle.aiger.specs.File.{counts_fit}
use Rattle.headers.specs.Header.{counts_meant}
use Rattle.headers.proofs.Heading.{fit-bounded, right-not, right-text, right-binary}
use borrow.Author.Rules.{rules}
use Rattle.headers.proofs.counts_right.Statement.{statement}
use Rattle.headers.proofs.counts_right.Tie as tie

held : (t : tie.Then-counts_fit) → counts_fit (counts_meant t.args.c) ≡ true
held t = sym t.counts_fit.ensures ∙ t.if-counts_fit.true

add-result : tie.Need-overflow_add-result
add-result c = omega (arith, fit-bounded c.args.c (held c.before.before))

add-result-2 : tie.Need-overflow_add-result-then-binary
add-result-2 c = omega (arith, fit-bounded c.args.c (held c.before.before.before))

returns : tie.Need-returns-then-binary
returns c =
    rw c.if-binary.true (right-binary _ (held c.before.before.before.before))

returns-2 : tie.Need-returns-then-counts_fit
returns-2 c = rw c.if-binary.false (right-text _ (held c.before))

returns-3 : tie.Need-returns
returns-3 c = right-not _ c.args.binary (sym c.counts_fit.ensures ∙ c.if-counts_fit.false)

pub counts_right_spec : {M : Type 1} → statement M
counts_right_spec =
    tie.close (tie.spec (λ c κs. search rules) add-result add-result-2 returns returns-2 returns-3)
