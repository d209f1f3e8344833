-- `enumeration::onward_word` meets its contract. Assumes nothing.
use mathlib.Core.Path.{◌≡◌, sym, ap, subst}
use Prim.Native.Nat.{ℕ, ◌+◌, ◌-◌, ◌*◌, ◌/◌, ◌%◌, ◌^◌, ◌≤◌}
use native.Mathlib.Omega.{arith}
use lib.Pow.{pow_mono, pow_pos}
use Rattle.enumeration.specs.Blocks.{Onward}
use Rattle.enumeration.proofs.Onward.{onward-all, onward-none, size-some, size-part, onward-size}
use borrow.Author.Rules.{rules}
use Rattle.enumeration.proofs.onward_word.Statement.{statement}
use Rattle.enumeration.proofs.onward_word.Tie as tie

mul-first : tie.Need-overflow_mul-first
mul-first c = omega (arith, c.requires)

returns : tie.Need-returns-then-lo-first
returns c = onward-all c.args.hits c.args.block c.args.lo c.if-lo-first.true

sub-q : tie.Need-overflow_sub-q
sub-q c = omega (arith, c.if-lo-first.false)

returns-2 : tie.Need-returns-then-q-gt63
returns-2 c = onward-none c.args.hits c.args.block c.args.lo (omega (arith, c.if-q-gt63.true, c.if-lo-first.false))

div-result : tie.Need-nonzero_div-result
div-result c =
    let A = c.args in
    size-some (A.lo - 64 * A.block) (omega (arith, c.if-q-gt63.false))

mul-result : tie.Need-overflow_mul-result
mul-result c =
    let A = c.args in
    omega (arith, size-part A.hits (A.lo - 64 * A.block) (omega (arith, c.if-q-gt63.false)))

returns-3 : tie.Need-returns
returns-3 c =
    let A = c.args in
    onward-size A.hits A.block A.lo (A.lo - 64 * A.block) (omega (arith, c.if-q-gt63.false)) (omega (arith, c.if-lo-first.false))

pub onward_word_spec : {M : Type 1} → statement M
onward_word_spec =
    tie.close
    (tie.spec mul-first returns sub-q returns-2 (λ c. search rules) div-result mul-result returns-3)
